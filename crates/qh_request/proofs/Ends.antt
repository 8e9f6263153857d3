-- How a call ended: what follows of each status from its text or its stop.
use Rattle.std.proofs.Common.{◌≡◌, ◌≢◌, ℕ, ◌≤◌, ◌⊎◌, inl, inr, List, true, false, Some, None, is_some, IfSome, IsSome, IsSomeAnd, refl, sym, ap, subst, ◌∙◌, arith}
use Rattle.std.specs.declared.option.Option.{Option}
use Rattle.std.proofs.lemmas.Bool.{cases_eq, false≢true}
use Rattle.qh_gates.specs.Circuits.{Circuit, total_weight}
use Rattle.qh_plan.specs.Jobs.{Job}
use Rattle.qh_plan.specs.declared.verdict.Verdict.{Verdict}
use Rattle.qh_disk.specs.Disk.{Face}
use Rattle.qh_slots.specs.Moments.{BeginsTrue, IsUnwritten}
use Rattle.qh_slots.specs.Refusing.{Accepts}
use Rattle.qh_words.specs.declared.options.Options.{Options}
use Rattle.qh_words.specs.declared.size.GenSize.{GenSize}
use Rattle.qh_request.specs.Seen.{Seen, Rises}
use Rattle.qh_request.specs.Inputs.{HasInput}
use Rattle.qh_request.specs.Jobs.{Asks, Takes, keeping}
use Rattle.qh_request.specs.Refusals.{Refuses, FilesReading, ReadingBy, Reading, SourceRises, RefusesAll, JournalRefuses}
use Rattle.qh_request.specs.Request.{Prints, PrintsAsked, RunIsWhole, EndsWholeBy, FaultCame, FaultFirst, Answers, IsRun}
use Rattle.qh_request.specs.Parts.{Ended}
use Rattle.qh_request.specs.Stops.{status_of}
use Rattle.qh_request.specs.Outcomes.{MayStopBy, MayStop, Stops}
use Rattle.qh_request.specs.declared.stop.Refusal.{Refusal}
use Rattle.qh_request.specs.declared.stop.Refusal.TheVariants.{CircuitTooLong, CircuitLine, BitsTooLong, BitsLine, Plan, ProbTooDeep, NoCut}
use Rattle.qh_request.specs.declared.stop.JournalRefusal.{JournalRefusal}
use Rattle.qh_request.specs.declared.stop.Input.TheVariants.{OfCircuit, OfBits}
use Rattle.qh_request.specs.declared.stop.Stop.{Stop}
use Rattle.qh_request.specs.declared.stop.Stop.TheVariants.{Usage, Refused, OverflowGate, OverflowPath, ReadFault, DiskFault, WriteFault, Memory, Journal}
use Rattle.qh_request.proofs.Causes.{refused_answer, words_answer, printed_refused, printed_words, accepted_not_refused, planned_part_not_refused, amplitudes_not_refused, shallow_not_refused, reads, none_some}
use Rattle.qh_request.proofs.Inputs.{same_job}
use Rattle.qh_request.proofs.Journals.{accepts_not_refuses}

same_some : (p q : Options) → ◌≡◌ {A = Option Options} (Some p) (Some q) → p ≡ q
same_some p q e = cc

some_is_none : {X : Type 0} (x : X) → Some x ≡ None → ⊥
some_is_none x e = cc

some_of : {X : Type 0} (o : Option X) (x : X) → o ≡ Some x → IsSome o
some_of o x e = ap is_some e

-- ---- by its text or its stop
abbrev pub How : Options → Seen → Seen → Seen → Face → Face → Face → Face → ℕ → Type 0
How o circuit bits out disk after old old_after status =
    ((status ≡ 0) × Prints o circuit bits out after (λ text. text))
    ⊎ ((stop : Stop) × (status ≡ status_of stop) × MayStopBy o circuit bits out disk after old old_after stop)

module _ (asked : Option Options) (circuit bits out : Seen) (disk after old old_after : Face) (status : ℕ) (Told : Stop → Type 0)
    (printed : status ≡ 0 → IsSomeAnd asked (λ o. Prints o circuit bits out after (λ text. text)))
    (stopped : status ≢ 0 → Stops status (MayStop asked circuit bits out disk after old old_after) Told) where
  pub how : (o : Options) → asked ≡ Some o → How o circuit bits out disk after old old_after status
  how o e = elim (cases_eq status 0) [
    | inl zero ↦ inl (zero, subst (λ a. IsSomeAnd a (λ o. Prints o circuit bits out after (λ text. text))) e (printed zero))
    | inr more ↦
        let s = stopped more in
        inr (s.stop, s.status_is, subst (λ a. MayStop a circuit bits out disk after old old_after s.stop) e s.cause)
  ]

  one_or_seven : (stop : Stop) → status ≡ status_of stop → MayStop None circuit bits out disk after old old_after stop → (status ≡ 1) ⊎ (status ≡ 7)
  one_or_seven Usage e m = inl e
  one_or_seven (Refused r) e m = absurd m
  one_or_seven (OverflowGate gate) e m = absurd m
  one_or_seven (OverflowPath path) e m = absurd m
  one_or_seven (ReadFault input) e m = absurd m
  one_or_seven DiskFault e m = absurd m
  one_or_seven (WriteFault n) e m = absurd m
  one_or_seven Memory e m = inr e
  one_or_seven (Journal r) e m = absurd m

  pub usage_answer : asked ≡ None → (status ≡ 1) ⊎ (status ≡ 7)
  usage_answer e = elim (cases_eq status 0) [
    | inl zero ↦ absurd (subst (λ a. IsSomeAnd a (λ o. Prints o circuit bits out after (λ text. text))) e (printed zero))
    | inr more ↦ let s = stopped more in one_or_seven s.stop s.status_is (subst (λ a. MayStop a circuit bits out disk after old old_after s.stop) e s.cause)
  ]

-- ---- a request
module _ (o : Options) (circuit bits out : Seen) (disk after old old_after : Face) (status : ℕ) where
  not_usage : (stop : Stop) → status ≡ status_of stop → MayStopBy o circuit bits out disk after old old_after stop → status ≡ 1 → ⊥
  not_usage Usage e m one = m
  not_usage (Refused r) e m one = omega (arith, e, one)
  not_usage (OverflowGate gate) e m one = omega (arith, e, one)
  not_usage (OverflowPath path) e m one = omega (arith, e, one)
  not_usage (ReadFault input) e m one = omega (arith, e, one)
  not_usage DiskFault e m one = omega (arith, e, one)
  not_usage (WriteFault n) e m one = omega (arith, e, one)
  not_usage Memory e m one = omega (arith, e, one)
  not_usage (Journal r) e m one = omega (arith, e, one)

  pub never_usage : How o circuit bits out disk after old old_after status → status ≡ 1 → ⊥
  never_usage (inl p) one = omega (arith, p.0, one)
  never_usage (inr s) one = not_usage s.0 s.1 s.2 one

  pub refused_by : How o circuit bits out disk after old old_after status → (r : Refusal) → Refuses (λ known P. IsSomeAnd known P) o r circuit.before bits.before
      → (status ≡ 2) ⊎ ((status ≡ 7) ⊎ ((status ≡ 4) × Reading o circuit bits r))
  refused_by (inl p) r h = absurd (printed_refused o circuit bits out after p.1 r h)
  refused_by (inr s) r h = refused_answer o status circuit bits out disk after old old_after s.0 s.1 s.2 r h

  pub words_refused_by : How o circuit bits out disk after old old_after status → RefusesAll o
      → (status ≡ 2) ⊎ ((status ≡ 7) ⊎ ((status ≡ 4) × SourceRises o.generated circuit bits))
  words_refused_by (inl p) all = absurd (printed_words o circuit bits out after p.1 all)
  words_refused_by (inr s) all = words_answer o status circuit bits out disk after old old_after s.0 s.1 s.2 all

  -- what the words ask for as a job is no refusal
  asks_not_refused : (asked : Option Options) (j : Job) → Asks asked circuit.before bits.before o j
      → (r : Refusal) → Refuses (λ known P. IfSome known P) o r circuit.before bits.before → ⊥
  asks_not_refused asked j a r h =
      accepted_not_refused o circuit.before bits.before o.generated a.value a.indices a.input
      (planned_part_not_refused o a.part a.value a.indices j a.cut a.planned) r h

  -- ---- a job whose journals are refused: a whole run has none
  pub journal_refused_by : (asked : Option Options) (j : Job) → How o circuit bits out disk after old old_after status → Asks asked circuit.before bits.before o j
      → (RunIsWhole status → ⊥) → (status ≡ 8) ⊎ ((status ≡ 7) ⊎ FaultFirst o circuit bits disk after old old_after status)
  journal_refused_by asked j (inl p) a not_whole = absurd (not_whole (inl p.0))
  journal_refused_by asked j (inr s) a not_whole = by s.0 s.1 s.2
    where
      by : (stop : Stop) → status ≡ status_of stop → MayStopBy o circuit bits out disk after old old_after stop
          → (status ≡ 8) ⊎ ((status ≡ 7) ⊎ FaultFirst o circuit bits disk after old old_after status)
      by Usage e m = absurd m
      by (Refused r) e m = absurd (asks_not_refused asked j a r m.1)
      by (OverflowGate gate) e m = absurd (not_whole (inr (inl e)))
      by (OverflowPath path) e m = absurd (not_whole (inr (inl e)))
      by (ReadFault OfCircuit) e m = inr (inr (inl (e, reads o circuit bits m.0 (inl m.1))))
      by (ReadFault OfBits) e m = inr (inr (inl (e, reads o circuit bits m.0 (inr m.1))))
      by DiskFault e m = inr (inr (inr (e, m.1)))
      by (WriteFault n) e m = absurd (not_whole (inr (inr e)))
      by Memory e m = inr (inl e)
      by (Journal r) e m = inl e

  -- ---- what is accepted
  no_cut : (j : Job) → o.part ≡ None → Takes o circuit bits j → ⊥
  no_cut j e t = none_some o.part t.part e t.cut

  pub uncut_answer : How o circuit bits out disk after old old_after status → ¬ FaultCame (Some o) circuit bits out disk after old old_after
      → (c : Circuit) (xs : List ℕ) → HasInput o.generated o.max_time circuit.before bits.before c xs → o.part ≡ None → o.prob ≡ false → c.qubits ≤ 16
      → (status ≡ 0) ⊎ ((status ≡ 3) ⊎ (status ≡ 7))
  uncut_answer (inl p) none c xs a uncut off low = inl p.0
  uncut_answer (inr s) none c xs a uncut off low = by s.0 s.1 s.2
    where
      by : (stop : Stop) → status ≡ status_of stop → MayStopBy o circuit bits out disk after old old_after stop → (status ≡ 0) ⊎ ((status ≡ 3) ⊎ (status ≡ 7))
      by Usage e m = absurd m
      by (Refused r) e m = absurd (accepted_not_refused o circuit.before bits.before o.generated c xs a (amplitudes_not_refused o c xs uncut off low) r m.1)
      by (OverflowGate gate) e m = inr (inl e)
      by (OverflowPath path) e m = inr (inl e)
      by (ReadFault OfCircuit) e m = absurd (none (inl (reads o circuit bits m.0 (inl m.1))))
      by (ReadFault OfBits) e m = absurd (none (inl (reads o circuit bits m.0 (inr m.1))))
      by DiskFault e m = absurd (none (inr (inr m.1)))
      by (WriteFault n) e m = absurd (none (inr (inl m.0)))
      by Memory e m = inr (inr e)
      by (Journal r) e m = absurd (no_cut m.0 uncut m.1)

  -- probabilities are over nowhere
  pub prob_answer : How o circuit bits out disk after old old_after status → ¬ FaultCame (Some o) circuit bits out disk after old old_after
      → (c : Circuit) (xs : List ℕ) → HasInput o.generated o.max_time circuit.before bits.before c xs → o.part ≡ None → o.prob ≡ true → c.qubits ≤ 16
      → total_weight c.gates ≤ 120 → (status ≡ 0) ⊎ (status ≡ 7)
  prob_answer (inl p) none c xs a uncut on low shallow = inl p.0
  prob_answer (inr s) none c xs a uncut on low shallow = by s.0 s.1 s.2
    where
      by : (stop : Stop) → status ≡ status_of stop → MayStopBy o circuit bits out disk after old old_after stop → (status ≡ 0) ⊎ (status ≡ 7)
      by Usage e m = absurd m
      by (Refused r) e m = absurd (accepted_not_refused o circuit.before bits.before o.generated c xs a (shallow_not_refused o c xs uncut low shallow) r m.1)
      by (OverflowGate gate) e m = absurd (false≢true (sym m.amplitudes ∙ on))
      by (OverflowPath path) e m = absurd (no_cut m.job uncut m.taken)
      by (ReadFault OfCircuit) e m = absurd (none (inl (reads o circuit bits m.0 (inl m.1))))
      by (ReadFault OfBits) e m = absurd (none (inl (reads o circuit bits m.0 (inr m.1))))
      by DiskFault e m = absurd (none (inr (inr m.1)))
      by (WriteFault n) e m = absurd (none (inr (inl m.0)))
      by Memory e m = inr e
      by (Journal r) e m = absurd (no_cut m.0 uncut m.1)

  pub never_over : How o circuit bits out disk after old old_after status → o.part ≡ None → o.prob ≡ true → status ≢ 3
  never_over (inl p) uncut on three = omega (arith, p.0, three)
  never_over (inr s) uncut on three = by s.0 s.1 s.2
    where
      by : (stop : Stop) → status ≡ status_of stop → MayStopBy o circuit bits out disk after old old_after stop → ⊥
      by Usage e m = m
      by (Refused r) e m = omega (arith, e, three)
      by (OverflowGate gate) e m = false≢true (sym m.amplitudes ∙ on)
      by (OverflowPath path) e m = no_cut m.job uncut m.taken
      by (ReadFault input) e m = omega (arith, e, three)
      by DiskFault e m = omega (arith, e, three)
      by (WriteFault n) e m = omega (arith, e, three)
      by Memory e m = omega (arith, e, three)
      by (Journal r) e m = omega (arith, e, three)

  pub cut_answer : (asked : Option Options) (j : Job) → How o circuit bits out disk after old old_after status → ¬ FaultCame (Some o) circuit bits out disk after old old_after
      → Asks asked circuit.before bits.before o j → Accepts (keeping o) j disk old → (status ≡ 0) ⊎ ((status ≡ 3) ⊎ (status ≡ 7))
  cut_answer asked j (inl p) none a accepted = inl p.0
  cut_answer asked j (inr s) none a accepted = by s.0 s.1 s.2
    where
      by : (stop : Stop) → status ≡ status_of stop → MayStopBy o circuit bits out disk after old old_after stop → (status ≡ 0) ⊎ ((status ≡ 3) ⊎ (status ≡ 7))
      by Usage e m = absurd m
      by (Refused r) e m = absurd (asks_not_refused asked j a r m.1)
      by (OverflowGate gate) e m = inr (inl e)
      by (OverflowPath path) e m = inr (inl e)
      by (ReadFault OfCircuit) e m = absurd (none (inl (reads o circuit bits m.0 (inl m.1))))
      by (ReadFault OfBits) e m = absurd (none (inl (reads o circuit bits m.0 (inr m.1))))
      by DiskFault e m = absurd (none (inr (inr m.1)))
      by (WriteFault n) e m = absurd (none (inr (inl m.0)))
      by Memory e m = inr (inr e)
      by (Journal r) e m =
          absurd (accepts_not_refuses (keeping o) j disk old accepted r
          (subst (λ i. JournalRefuses (λ known P. IfSome known P) (keeping o) i disk old r) (same_job asked o circuit bits m.0 j m.1 a) m.2))

-- ---- the whole run of the job that the words ask for
module _ (asked : Option Options) (circuit bits out : Seen) (disk after old : Face) (Granted : ℕ → Type 0) (status : ℕ)
    (ended : IfSome asked (λ o. Ended o circuit bits out disk after old Granted status)) where
  ended_by : (o : Options) → asked ≡ Some o → Ended o circuit bits out disk after old Granted status
  ended_by o e = subst (λ a. IfSome a (λ o. Ended o circuit bits out disk after old Granted status)) e ended

  pub whole_run : RunIsWhole status → IfSome asked (λ o. IsSome o.part → EndsWholeBy o circuit bits out disk after old Granted status)
  whole_run done = by asked ended
    where
      by : (a : Option Options) → IfSome a (λ o. Ended o circuit bits out disk after old Granted status)
          → IfSome a (λ o. IsSome o.part → EndsWholeBy o circuit bits out disk after old Granted status)
      by None e = tt
      by (Some o) e = e.whole done

  pub unwritten_by : (o : Options) → asked ≡ Some o → o.fresh ≡ false → status ≡ 8 → IsUnwritten disk after
  unwritten_by o e stale eight = (ended_by o e).unwritten eight stale

  -- of the job that is asked for
  pub record Whole (o : Options) (j : Job) : Type 0 where
    pub verdict : Verdict
    pub run : IsRun (keeping o) j old disk after Granted verdict
    pub exact : BeginsTrue (keeping o) j disk old → PrintsAsked o j out status

  pub whole_asked : (o : Options) (j : Job) → Asks asked circuit.before bits.before o j → RunIsWhole status → Whole o j
  whole_asked o j a done =
      let e = (ended_by o a.request_is).whole done (some_of o.part a.part a.cut) in
      subst (Whole o) (same_job asked o circuit bits e.job j e.taken a) (record { verdict = e.verdict; run = e.run; exact = e.exact })

  pub exact_asked : (o : Options) (j : Job) → Asks asked circuit.before bits.before o j → BeginsTrue (keeping o) j disk old → PrintsAsked o j out status
  exact_asked o j a begins = record {
    whole = λ e. ((whole_asked o j a (inl e)).exact begins).whole e;
    front = λ e. ((whole_asked o j a (inr (inr e))).exact begins).front e;
    over = λ e. ((whole_asked o j a (inr (inl e))).exact begins).over e;
  }

-- ---- where no fault came
files_rose : (circuit bits : Seen) (r : Refusal) → (Rises circuit ⊎ Rises bits → ⊥) → FilesReading circuit bits r → ⊥
files_rose circuit bits CircuitTooLong none h = none (inl h)
files_rose circuit bits (CircuitLine line why) none h = none (inl h)
files_rose circuit bits BitsTooLong none h = none h
files_rose circuit bits (BitsLine line why) none h = none h
files_rose circuit bits (Plan fault) none h = none h
files_rose circuit bits (ProbTooDeep weight) none h = none h
files_rose circuit bits NoCut none h = none h

none_rose : (g : Option GenSize) (circuit bits : Seen) (r : Refusal) → (SourceRises g circuit bits → ⊥) → ReadingBy g circuit bits r → ⊥
none_rose None circuit bits r none h = files_rose circuit bits r none h
none_rose (Some size) circuit bits r none h = h

two_or_seven : (status : ℕ) (R : Type 0) → (R → ⊥) → (status ≡ 2) ⊎ ((status ≡ 7) ⊎ ((status ≡ 4) × R)) → (status ≡ 2) ⊎ (status ≡ 7)
two_or_seven status R n (inl e) = inl e
two_or_seven status R n (inr (inl e)) = inr e
two_or_seven status R n (inr (inr e)) = absurd (n e.1)

eight_or_seven : (status : ℕ) (R : Type 0) → (R → ⊥) → (status ≡ 8) ⊎ ((status ≡ 7) ⊎ R) → (status ≡ 8) ⊎ (status ≡ 7)
eight_or_seven status R n (inl e) = inl e
eight_or_seven status R n (inr (inl e)) = inr e
eight_or_seven status R n (inr (inr e)) = absurd (n e)

pub no_first_fault : (o : Options) (circuit bits out : Seen) (disk after old old_after : Face) (status : ℕ) → ¬ FaultCame (Some o) circuit bits out disk after old old_after
    → FaultFirst o circuit bits disk after old old_after status → ⊥
no_first_fault o circuit bits out disk after old old_after status none (inl f) = none (inl f.1)
no_first_fault o circuit bits out disk after old old_after status none (inr f) = none (inr (inr f.1))

module _ (asked : Option Options) (circuit bits out : Seen) (disk after old old_after : Face) (Granted : ℕ → Type 0) (status : ℕ) (Told : Stop → Type 0)
    (printed : status ≡ 0 → IsSomeAnd asked (λ o. Prints o circuit bits out after (λ text. text)))
    (stopped : status ≢ 0 → Stops status (MayStop asked circuit bits out disk after old old_after) Told)
    (ended : IfSome asked (λ o. Ended o circuit bits out disk after old Granted status)) where
  how_here : (o : Options) → asked ≡ Some o → How o circuit bits out disk after old old_after status
  how_here = how asked circuit bits out disk after old old_after status Told printed stopped

  pub only_usage : status ≡ 1 → asked ≡ None
  only_usage one = by asked refl
    where
      by : (a : Option Options) → asked ≡ a → asked ≡ None
      by None e = e
      by (Some o) e = absurd (never_usage o circuit bits out disk after old old_after status (how_here o e) one)

  pub never_over_asked : ((o : Options) → asked ≡ Some o → o.prob ≡ true → o.part ≡ None) → (o : Options) → asked ≡ Some o → o.prob ≡ true → status ≢ 3
  never_over_asked alone o e on = never_over o circuit bits out disk after old old_after status (how_here o e) (alone o e on) on

  pub refused_asked : (o : Options) (r : Refusal) → asked ≡ Some o → Refuses (λ known P. IsSomeAnd known P) o r circuit.before bits.before
      → (status ≡ 2) ⊎ ((status ≡ 7) ⊎ ((status ≡ 4) × Reading o circuit bits r))
  refused_asked o r e h = refused_by o circuit bits out disk after old old_after status (how_here o e) r h

  pub words_refused : (o : Options) → asked ≡ Some o → RefusesAll o → (status ≡ 2) ⊎ ((status ≡ 7) ⊎ ((status ≡ 4) × SourceRises o.generated circuit bits))
  words_refused o e all = words_refused_by o circuit bits out disk after old old_after status (how_here o e) all

  pub journal_refused : (o : Options) (j : Job) (r : JournalRefusal) → Asks asked circuit.before bits.before o j
      → JournalRefuses (λ known P. IsSomeAnd known P) (keeping o) j disk old r
      → (status ≡ 8) ⊎ ((status ≡ 7) ⊎ FaultFirst o circuit bits disk after old old_after status)
  journal_refused o j r a h =
      journal_refused_by o circuit bits out disk after old old_after status asked j (how_here o a.request_is) a
      (λ done. (whole_asked asked circuit bits out disk after old Granted status ended o j a done).run.accepted r h)

  none_of : (o : Options) → asked ≡ Some o → ¬ FaultCame asked circuit bits out disk after old old_after → ¬ FaultCame (Some o) circuit bits out disk after old old_after
  none_of o e none = subst (λ a. ¬ FaultCame a circuit bits out disk after old old_after) e none

  pub completes : ¬ FaultCame asked circuit bits out disk after old old_after → Answers asked circuit.before bits.before disk old status
  completes none = record {
    usage = usage_answer asked circuit bits out disk after old old_after status Told printed stopped;
    refused = λ o e r h. two_or_seven status (Reading o circuit bits r) (none_rose o.generated circuit bits r (λ rose. none_of o e none (inl rose))) (refused_asked o r e h);
    refused_by_words = λ o e all. two_or_seven status (SourceRises o.generated circuit bits) (λ rose. none_of o e none (inl rose)) (words_refused o e all);
    journal_refused = λ o j a r h. eight_or_seven status (FaultFirst o circuit bits disk after old old_after status)
        (no_first_fault o circuit bits out disk after old old_after status (none_of o a.request_is none)) (journal_refused o j r a h);
    uncut = λ o e c xs a uncut off low. uncut_answer o circuit bits out disk after old old_after status (how_here o e) (none_of o e none) c xs a uncut off low;
    prob = λ o e c xs a uncut on low shallow. prob_answer o circuit bits out disk after old old_after status (how_here o e) (none_of o e none) c xs a uncut on low shallow;
    cut = λ o j a accepted. cut_answer o circuit bits out disk after old old_after status asked j (how_here o a.request_is) (none_of o a.request_is none) a accepted;
  }
