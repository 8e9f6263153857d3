-- What one call comes to, by its clauses.
use Rattle.std.proofs.Common.{◌≡◌, ◌≢◌, ℕ, ◌+◌, ◌≤◌, ◌⊎◌, ◌++◌, inl, inr, List, [], true, false, Bool, Some, None, IfSome, IsSome, IsSomeAnd, is_some, if◌then◌else◌, refl, sym, ap, subst, ◌∙◌, arith, append-nil}
use Rattle.std.specs.declared.option.Option.{Option}
use Rattle.std.specs.Prelude.{nat_eq}
use Rattle.std.specs.Bool.{MatchBool}
use Rattle.std.proofs.lemmas.Bool.{false≢true}
use Rattle.qh_limits.specs.Counts.{Rose}
use Rattle.qh_gates.specs.Circuits.{Circuit}
use Rattle.qh_plan.specs.Jobs.{Job}
use Rattle.qh_io.specs.Memory.{Tray}
use Rattle.qh_io.specs.Reading.{IsReadWhole}
use Rattle.qh_disk.specs.Disk.{Face}
use Rattle.qh_disk.specs.History.{History, content_of, face_of}
use Rattle.qh_disk.specs.Moments.{EachImage}
use Rattle.qh_slots.specs.Stands.{Made}
use Rattle.qh_slots.specs.Attaching.{first_refusal, head_refusal}
use Rattle.qh_slots.specs.declared.fault.AttachFault.{AttachFault}
use Rattle.qh_slots.specs.declared.fault.AttachFault.TheVariants.{Empty}
use Rattle.qh_slots.specs.Moments.{IsMade, BeginsTrue, IsUnwritten}
use Rattle.qh_words.specs.declared.options.Options.{Options}
use Rattle.qh_words.specs.declared.size.GenSize.{GenSize}
use Rattle.qh_request.specs.Seen.{Seen}
use Rattle.qh_request.specs.Inputs.{IsCircuitFile, IsBitsFile, IsInput, HasInput}
use Rattle.qh_request.specs.Jobs.{Asks, Takes, keeping, job_strings}
use Rattle.qh_request.specs.Refusals.{RefusesBy, Refuses, Reading, JournalRefuses}
use Rattle.qh_request.specs.Request.{RunIsWhole, EndsWhole, PrintsAsked}
use Rattle.qh_request.specs.Stops.{status_of}
use Rattle.qh_request.specs.Outcomes.{MayStopBy, MayStop, Stops}
use Rattle.qh_request.specs.declared.stop.Refusal.{Refusal}
use Rattle.qh_request.specs.declared.stop.Refusal.TheVariants.{CircuitTooLong, CircuitLine, BitsTooLong, BitsLine, Plan, ProbTooDeep, NoCut}
use Rattle.qh_request.specs.declared.stop.Input.TheVariants.{OfCircuit, OfBits}
use Rattle.qh_request.specs.declared.stop.JournalRefusal.{JournalRefusal}
use Rattle.qh_request.specs.declared.stop.JournalRefusal.TheVariants.{OfJournal, OfOld}
use Rattle.qh_request.specs.declared.stop.Stop.{Stop}
use Rattle.qh_request.specs.declared.stop.Stop.TheVariants.{Usage, Refused, OverflowGate, OverflowPath, ReadFault, DiskFault, WriteFault, Memory, Journal}
use Rattle.qh_endure.specs.Outcomes.{KeepsOwnJournal, IsMadeNow, EndsWithAnswer, IsRefused, IsOver, RefusesFile, Ends}

-- a source that never fails, which told a text and has this left
abbrev pub given : List ℕ → Option (List ℕ) → Seen
given text left = record { before = Some text; after = left; faults = 0; faults_after = 0 }

-- a sink in memory before and after
abbrev pub filled : Tray → Tray → Seen
filled out after = record { before = Some out.held; after = Some after.held; faults = out.faults; faults_after = after.faults }

-- ---- the sources: what is asked for by what they told
-- a source that was read to its end gave its text
all_given : (text : List ℕ) (left : Option (List ℕ)) (bytes : List ℕ) → IsReadWhole (Some text) left bytes → bytes ≡ text
all_given text None bytes read = absurd read.gone
all_given text (Some rest) bytes read = sym (append-nil bytes) ∙ ap (λ (r : List ℕ). bytes ++ r) (sym read.end) ∙ sym read.gone

has_input : (g : Option GenSize) (T : ℕ) (circuit bits : List ℕ) (l m : Option (List ℕ)) (c : Circuit) (xs : List ℕ)
    → IsInput g T (given circuit l) (given bits m) c xs → HasInput g T (Some circuit) (Some bits) c xs
has_input None T circuit bits l m c xs read = (
  subst (λ bytes. IsCircuitFile T c bytes) (all_given circuit l read.circuit_bytes read.circuit_read) read.circuit_file,
  subst (λ bytes. IsBitsFile c xs bytes) (all_given bits m read.bits_bytes read.bits_read) read.bits_file,
)
has_input (Some size) T circuit bits l m c xs made = made

-- the job that the call came to is asked for
asks_of : (asked : Option Options) (o : Options) (circuit bits : List ℕ) (l m : Option (List ℕ)) (j : Job)
    → asked ≡ Some o → Takes o (given circuit l) (given bits m) j → Asks asked (Some circuit) (Some bits) o j
asks_of asked o circuit bits l m j e t = record {
  request_is = e;
  value = t.value;
  indices = t.indices;
  input = has_input o.generated o.max_time circuit bits l m t.value t.indices t.input;
  part = t.part;
  cut = t.cut;
  planned = t.planned;
}

-- what refuses a request where it is told, refuses one that is told
refuses_told : (g : Option GenSize) (o : Options) (r : Refusal) (circuit bits : List ℕ)
    → RefusesBy g (λ known P. IfSome known P) o r (Some circuit) (Some bits) → RefusesBy g (λ known P. IsSomeAnd known P) o r (Some circuit) (Some bits)
refuses_told None o CircuitTooLong circuit bits h = h
refuses_told None o (CircuitLine line why) circuit bits h = h
refuses_told None o BitsTooLong circuit bits h = h
refuses_told None o (BitsLine line why) circuit bits h = h
refuses_told None o (Plan fault) circuit bits h = h
refuses_told None o (ProbTooDeep weight) circuit bits h = h
refuses_told None o NoCut circuit bits h = h
refuses_told (Some size) o r circuit bits h = h

-- ---- the journal, where no old one is taken over
not_taking : (o : Options) → o.from ≡ None → is_some o.from ≡ true → ⊥
not_taking o none some = false≢true (sym (ap is_some none) ∙ some)

pub is_made : (o : Options) (j : Job) (disk old : History) → KeepsOwnJournal o → EachImage (face_of disk) (Made j) → IsMade (keeping o) j (face_of disk) (face_of old)
is_made o j disk old own each = record { journal = each; taken = λ m. absurd (not_taking o own.alone m.0) }

begins_true : (o : Options) (j : Job) (disk old : History) → KeepsOwnJournal o → EachImage (face_of disk) (Made j) → BeginsTrue (keeping o) j (face_of disk) (face_of old)
begins_true o j disk old own each = record { told = λ e. refl; journal = λ e f. each; taken = λ m. absurd (not_taking o own.alone m.0) }

pub each_now : (asked : Option Options) (circuit bits : List ℕ) (disk : History) → IsMadeNow asked circuit bits (face_of disk) → (o : Options) (j : Job)
    → Asks asked (Some circuit) (Some bits) o j → EachImage (face_of disk) (Made j)
each_now asked circuit bits disk made o j asks c is =
    made o j asks c (record { moment = (face_of disk).clock; after = omega arith; by_now = omega arith; image = is })

first_empty : (j : Job) → first_refusal j [] ≡ Some Empty
unfolding first_refusal head_refusal
first_empty j = refl

same_some : {X : Type 0} (x y : X) → Some x ≡ Some y → x ≡ y
same_some x y e = cc

refuses_file : (asked : Option Options) (o : Options) (circuit bits : List ℕ) (j : Job) (disk after old : History) (r : JournalRefusal) → KeepsOwnJournal o
    → Asks asked (Some circuit) (Some bits) o j → JournalRefuses (λ known P. IfSome known P) (keeping o) j (face_of disk) (face_of old) r
    → (o.fresh ≡ false → Some (content_of after) ≡ Some (content_of disk)) → RefusesFile asked circuit bits (content_of after)
refuses_file asked o circuit bits j disk after old (OfOld r) own asks h same = absurd (not_taking o own.alone h.1.taking)
refuses_file asked o circuit bits j disk after old (OfJournal r) own asks h same = by o.fresh refl h.1.first
  where
    by : (fresh : Bool) → o.fresh ≡ fresh → (first_refusal j (if fresh then [] else content_of disk) ≡ Some r) × (r ≢ Empty) → RefusesFile asked circuit bits (content_of after)
    by true e first = absurd (first.1 (same_some r Empty (sym first.0 ∙ first_empty j)))
    by false e first = record {
      options = o;
      job = j;
      asks = asks;
      kept = e;
      why = r;
      first = ap (first_refusal j) (same_some (content_of after) (content_of disk) (same e)) ∙ first.0;
      begun = first.1;
    }

-- ---- how the call ended
no_rise : Rose 0 0 → ⊥
no_rise rose = omega arith

module _ (asked : Option Options) (circuit bits : List ℕ) (l m : Option (List ℕ)) (disk after old old_after : History) (out out_after : Tray) (grants grants_after status : ℕ)
    (Told : Stop → Type 0)
    (own : (o : Options) → asked ≡ Some o → KeepsOwnJournal o)
    (made : IsMadeNow asked circuit bits (face_of disk))
    (usage : asked ≡ None → (status ≡ 1) ⊎ (status ≡ 7))
    (usage_only : status ≡ 1 → asked ≡ None)
    (refused : (o : Options) (r : Refusal) → asked ≡ Some o → Refuses (λ known P. IsSomeAnd known P) o r (Some circuit) (Some bits)
    → (status ≡ 2) ⊎ ((status ≡ 7) ⊎ ((status ≡ 4) × Reading o (given circuit l) (given bits m) r)))
    (stopped : status ≢ 0 → Stops status (MayStop asked (given circuit l) (given bits m) (filled out out_after) (face_of disk) (face_of after) (face_of old) (face_of old_after)) Told)
    (whole : RunIsWhole status → IfSome asked (λ o. IsSome o.part
    → EndsWhole o (given circuit l) (given bits m) (filled out out_after) (face_of disk) (face_of after) (face_of old) grants grants_after status))
    (unwritten : (o : Options) → asked ≡ Some o → o.fresh ≡ false → status ≡ 8 → IsUnwritten (face_of disk) (face_of after)) where
  -- what the statuses claim
  abbrev Claim : ℕ → Type 0
  Claim n =
      MatchBool (nat_eq n 2) (IsRefused asked circuit bits)
      (MatchBool (nat_eq n 4) ⊥
      (MatchBool (nat_eq n 5) (Rose disk.faults after.faults)
      (MatchBool (nat_eq n 6) (Rose out.faults out_after.faults)
      (MatchBool (nat_eq n 8) (RefusesFile asked circuit bits (content_of after))
      (Unit {0})))))

  claim_of : (o : Options) → asked ≡ Some o → (stop : Stop) → status ≡ status_of stop
      → MayStopBy o (given circuit l) (given bits m) (filled out out_after) (face_of disk) (face_of after) (face_of old) (face_of old_after) stop → Claim (status_of stop)
  claim_of o e Usage is may = absurd may
  claim_of o e (Refused r) is may = record { options = o; request_is = e; refusal = r; refuses = refuses_told o.generated o r circuit bits may.1 }
  claim_of o e (OverflowGate gate) is may = tt
  claim_of o e (OverflowPath path) is may = tt
  claim_of o e (ReadFault OfCircuit) is may = no_rise may.1
  claim_of o e (ReadFault OfBits) is may = no_rise may.1
  claim_of o e DiskFault is may = elim may.1.1 [
    | inl rose ↦ rose
    | inr taking ↦ absurd (not_taking o (own o e).alone taking.0)
  ]
  claim_of o e (WriteFault n) is may = may.0
  claim_of o e Memory is may = tt
  claim_of o e (Journal r) is may =
      refuses_file asked o circuit bits may.0 disk after old r (own o e) (asks_of asked o circuit bits l m may.0 e may.1) may.2 (λ kept. (unwritten o e kept is).content)

  -- where it is neither 1 nor 7, the words are a request
  some_asked : (status ≡ 1 → ⊥) → (status ≡ 7 → ⊥) → (o : Options) × (asked ≡ Some o)
  some_asked not_one not_seven = by asked refl
    where
      by : (a : Option Options) → asked ≡ a → (o : Options) × (asked ≡ Some o)
      by (Some o) e = (o, e)
      by None e = elim (usage e) [
        | inl one ↦ absurd (not_one one)
        | inr seven ↦ absurd (not_seven seven)
      ]

  claim : (status ≡ 0 → ⊥) → (status ≡ 1 → ⊥) → (status ≡ 7 → ⊥) → Claim status
  claim not_zero not_one not_seven =
      let found = some_asked not_one not_seven in
      let s = stopped not_zero in
      subst (λ (n : ℕ). Claim n) (sym s.status_is)
      (claim_of found.0 found.1 s.stop s.status_is
      (subst (λ a. MayStop a (given circuit l) (given bits m) (filled out out_after) (face_of disk) (face_of after) (face_of old) (face_of old_after) s.stop) found.1 s.cause))

  claim_at : (n : ℕ) → status ≡ n → (n ≡ 0 → ⊥) → (n ≡ 1 → ⊥) → (n ≡ 7 → ⊥) → Claim n
  claim_at n e not_zero not_one not_seven =
      subst (λ (k : ℕ). Claim k) e (claim (λ i. not_zero (sym e ∙ i)) (λ i. not_one (sym e ∙ i)) (λ i. not_seven (sym e ∙ i)))

  -- a whole run is one of a job that is asked for
  prints : RunIsWhole status → (status ≡ 1 → ⊥) → (status ≡ 7 → ⊥) → (o : Options) × (j : Job) × Asks asked (Some circuit) (Some bits) o j × PrintsAsked o j (filled out out_after) status
  prints done not_one not_seven =
      let found = some_asked not_one not_seven in
      let o = found.0 in
      let e = found.1 in
      let run = subst (λ a. IfSome a (λ o. IsSome o.part
      → EndsWhole o (given circuit l) (given bits m) (filled out out_after) (face_of disk) (face_of after) (face_of old) grants grants_after status)) e (whole done) (own o e).cut in
      let asks = asks_of asked o circuit bits l m run.job e run.taken in
      (o, run.job, asks, run.exact (begins_true o run.job disk old (own o e) (each_now asked circuit bits disk made o run.job asks)))

  answer : status ≡ 0 → EndsWithAnswer asked circuit bits out_after.held
  answer zero =
      let p = prints (inl zero) (λ one. omega arith) (λ seven. omega arith) in
      let text = p.3.whole zero in
      record { options = p.0; job = p.1; asks = p.2; text = text.0; is_text = text.1; earlier = out.held; ends = text.2 }

  is_over : status ≡ 3 → IsOver asked circuit bits
  is_over three =
      let p = prints (inr (inl three)) (λ one. omega arith) (λ seven. omega arith) in
      let over = p.3.over three in
      record { options = p.0; job = p.1; asks = p.2; path = over.0; over = over.1 }

  all_read : status ≡ 4 → ⊥
  all_read four = claim_at 4 four (λ e. omega arith) (λ e. omega arith) (λ e. omega arith)

  pub ends : Ends asked circuit bits disk after out out_after status
  ends = record {
    answer = answer;
    usage = usage;
    usage_only = usage_only;
    refused = λ h. elim (refused h.options h.refusal h.request_is h.refuses) [
      | inl two ↦ inl two
      | inr more ↦ elim more [
        | inl seven ↦ inr seven
        | inr read ↦ absurd (all_read read.0)
      ]
    ];
    refused_only = λ two. claim_at 2 two (λ e. omega arith) (λ e. omega arith) (λ e. omega arith);
    over = is_over;
    all_read = all_read;
    disk_fault = λ five. claim_at 5 five (λ e. omega arith) (λ e. omega arith) (λ e. omega arith);
    write_fault = λ six. claim_at 6 six (λ e. omega arith) (λ e. omega arith) (λ e. omega arith);
    journal = λ eight. claim_at 8 eight (λ e. omega arith) (λ e. omega arith) (λ e. omega arith);
  }
