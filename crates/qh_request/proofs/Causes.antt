-- What causes exclude and give.
use Rattle.std.proofs.Common.{◌≡◌, ℕ, ◌^◌, ◌<◌, ◌≤◌, ◌≢◌, ◌⊎◌, inl, inr, List, ◌++◌, length, map, Bool, true, false, Some, None, Ok, Err, Result, IfSome, IsSomeAnd, refl, sym, ap, subst, ◌∙◌, arith, append-nil}
use Rattle.std.proofs.lemmas.Bool.{false≢true, cases_lt}
use Rattle.std.proofs.lemmas.List.{ext_get_or}
use Rattle.std.specs.declared.option.Option.{Option}
use Rattle.qh_gates.specs.Circuits.{Circuit, total_weight}
use Rattle.qh_circuit.specs.Texts.{FaultyLine}
use Rattle.qh_bits.specs.Texts.{bits_of}
use Rattle.qh_text.specs.Bitstrings.{index_of}
use Rattle.qh_bits.specs.declared.faults.BitsFault.{BitsFault}
use Rattle.qh_io.specs.Reading.{IsReadWhole}
use Rattle.qh_plan.specs.Items.{items_of, number_at, AreNumbers, IsItemFault}
use Rattle.qh_plan.specs.Jobs.{Job}
use Rattle.qh_plan.specs.Plans.{first_fault, job_of}
use Rattle.qh_plan.specs.declared.fault.PlanFault.{PlanFault}
use Rattle.qh_plan.specs.declared.fault.PlanFault.TheVariants.{PartText, NoSuchQubit, QubitTwice, EmptyPart, PartTooWide, TooManyCrossing, TooManyPaths, PrefixRoot, PrefixValue, TooManyRanges, JournalTooLong, UncutTooWide, Memory as PlanMemory}
use Rattle.qh_disk.specs.Disk.{Face}
use Rattle.qh_words.specs.declared.options.Options.{Options}
use Rattle.qh_words.specs.declared.size.GenSize.{GenSize}
use Rattle.qh_request.specs.Seen.{Seen, Rises}
use Rattle.qh_request.specs.Inputs.{IsCircuitFile, IsBitsFile, IsRead, IsGenerated, IsInput, HasInput, first_indices}
use Rattle.qh_planner.specs.Cuts.{Asked, cost, first_qubits}
use Rattle.qh_planner.specs.Choice.{IsBestCut}
use Rattle.qh_request.specs.Chosen.{is_auto, asks_auto, cut_asked, IsPartBy, NoneAllowed, HasNoCut}
use Rattle.qh_request.specs.Answer.{IsWholeAnswer, IsAnswerBy}
use Rattle.qh_request.specs.Jobs.{IsPlannedJob, Takes, keeping}
use Rattle.qh_plan.specs.declared.verdict.Verdict.TheVariants.{Over}
use Rattle.qh_request.specs.Refusals.{PartRefuses, PlanRefusesBy, PlanRefuses, IsTooDeep, CircuitRefuses, FilesHold, FilesRefuse, SizeRefuses, RefusesBy, Refuses, FilesReading, ReadingBy, Reading, SourceRises, RefusesAll, IsOfWords}
use Rattle.qh_request.specs.declared.stop.Refusal.{Refusal}
use Rattle.qh_request.specs.declared.stop.Refusal.TheVariants.{CircuitTooLong, CircuitLine, BitsTooLong, BitsLine, Plan, ProbTooDeep, NoCut}
use Rattle.qh_request.specs.declared.stop.Input.TheVariants.{OfCircuit, OfBits}
use Rattle.qh_request.specs.declared.stop.Stop.{Stop}
use Rattle.qh_request.specs.declared.stop.Stop.TheVariants.{Usage, Refused, OverflowGate, OverflowPath, ReadFault, DiskFault, WriteFault, Memory, Journal}
use Rattle.qh_request.specs.Request.{Prints, OverflowsOn, IsRun}
use Rattle.qh_request.specs.Stops.{status_of, stop_of}
use Rattle.qh_request.specs.Outcomes.{MayStopBy}
use Rattle.qh_request.proofs.Words.{words_of_plan}
use Rattle.qh_request.proofs.Strings.{asked_indices}
use Rattle.qh_request.proofs.Asked.{not_kept}
use Rattle.qh_request.specs.Parts.{FilesMayStop, InputMayStop, PlanMayStop, UncutMayStop, CutMayStop, AnswerMayStop}

-- ---- what was read
-- what was read whole is what the source held, where it tells that
pub read_holds : (old new : Option (List ℕ)) (bytes : List ℕ) (P : List ℕ → Type 0) → IsReadWhole old new bytes → P bytes → IfSome old P
read_holds None new bytes P h p = tt
read_holds (Some xs) None bytes P h p = absurd h.gone
read_holds (Some xs) (Some ys) bytes P h p = subst P (sym (h.gone ∙ ap (λ t. bytes ++ t) h.end ∙ append-nil bytes)) p

pub read_told : (old new : Option (List ℕ)) (bytes : List ℕ) (P : List ℕ → Type 0) → IsReadWhole old new bytes → IsSomeAnd old P → P bytes
read_told None new bytes P h p = absurd p
read_told (Some xs) None bytes P h p = absurd h.gone
read_told (Some xs) (Some ys) bytes P h p = subst P (h.gone ∙ ap (λ t. bytes ++ t) h.end ∙ append-nil bytes) p

circuit_clash : (r : Result Circuit FaultyLine) (c : Circuit) (fault : FaultyLine) → r ≡ Ok c → r ≡ Err fault → ⊥
circuit_clash r c fault e f = cc

bits_clash : (r : Result (List ℕ) BitsFault) (xs : List ℕ) (fault : BitsFault) → r ≡ Ok xs → r ≡ Err fault → ⊥
bits_clash r xs fault e f = cc

pub same_circuit : (r : Result Circuit FaultyLine) (c d : Circuit) → r ≡ Ok c → r ≡ Ok d → c ≡ d
same_circuit r c d e f = cc

pub same_bits : (r : Result (List ℕ) BitsFault) (xs ys : List ℕ) → r ≡ Ok xs → r ≡ Ok ys → xs ≡ ys
same_bits r xs ys e f = cc

too_long : (n m : ℕ) → n ≤ m → m < n → ⊥
too_long n m l h = omega arith

-- ---- the items of a part are one list of numbers
some_same : (o : Option ℕ) (x y : ℕ) → o ≡ Some x → o ≡ Some y → x ≡ y
some_same o x y e f = cc

some_none : (o : Option ℕ) (x : ℕ) → o ≡ Some x → o ≡ None → ⊥
some_none o x e f = cc

pub none_some : {A : Type 0} (o : Option A) (x : A) → o ≡ None → o ≡ Some x → ⊥
none_some o x e f = cc

one_numbers : (items : List (List ℕ)) (xs ys : List ℕ) → AreNumbers items xs → AreNumbers items ys → xs ≡ ys
one_numbers items xs ys a b =
    let even : length xs ≡ length ys = sym a.count ∙ b.count in
    ext_get_or 0 xs ys even (λ k l. some_same (number_at items k) _ _ (a.spelled k l) (b.spelled k (subst (λ n. k < n) even l)))

no_item_fault : (items : List (List ℕ)) (xs : List ℕ) (fault : PlanFault) → AreNumbers items xs → IsItemFault items fault → ⊥
no_item_fault items xs (PartText index) a h = some_none (number_at items index) _ (a.spelled index (subst (λ n. index < n) a.count h.within)) h.bad
no_item_fault items xs (NoSuchQubit qubit) a h = h
no_item_fault items xs (QubitTwice qubit) a h = h
no_item_fault items xs EmptyPart a h = h
no_item_fault items xs (PartTooWide qubits) a h = h
no_item_fault items xs (TooManyCrossing count) a h = h
no_item_fault items xs (TooManyPaths log2) a h = h
no_item_fault items xs (PrefixRoot crossing) a h = h
no_item_fault items xs (PrefixValue prefixes) a h = h
no_item_fault items xs (TooManyRanges ranges) a h = h
no_item_fault items xs (JournalTooLong bytes) a h = h
no_item_fault items xs (UncutTooWide qubits) a h = h
no_item_fault items xs PlanMemory a h = h

-- there is one cheapest cut
one_best : (a : Asked) (m n : ℕ) → IsBestCut a m → IsBestCut a n → m ≡ n
one_best a m n d e = elim (cases_lt m n) [
  | inl h ↦ absurd (lower (cost a m) (cost a n) (e.first m d.some_in_one h d.allowed) (e.least m d.some_in_one d.some_in_two d.allowed) (d.least n e.some_in_one e.some_in_two e.allowed))
  | inr h ↦ elim (cases_lt n m) [
    | inl k ↦ absurd (lower (cost a n) (cost a m) (d.first n e.some_in_one k e.allowed) (d.least n e.some_in_one e.some_in_two e.allowed) (e.least m d.some_in_one d.some_in_two d.allowed))
    | inr k ↦ omega (arith, h, k)
  ]
]
  where
    lower : (x y : ℕ) → y < x → y ≤ x → x ≤ y → ⊥
    lower x y less some more = omega (arith, less, more)

one_part : (auto : Bool) (o : Options) (part : List ℕ) (c : Circuit) (xs items other : List ℕ) → IsPartBy auto o part c xs items → IsPartBy auto o part c xs other → items ≡ other
one_part true o part c xs items other d e = d.2 ∙ ap first_qubits (one_best (cut_asked o c xs) d.0 e.0 d.1 e.1) ∙ sym e.2
one_part false o part c xs items other d e = one_numbers (items_of part) items other d e

-- one job is planned
pub one_job : (o : Options) (part : List ℕ) (c : Circuit) (xs : List ℕ) (i j : Job) → IsPlannedJob o part c xs i → IsPlannedJob o part c xs j → i ≡ j
one_job o part c xs i j p q = p.job ∙ ap (λ items. job_of c items o.p o.r o.w xs) (one_part (is_auto part) o part c xs p.items q.items p.part_is q.part_is) ∙ sym q.job

-- what is planned is not refused
part_not_refused : (auto : Bool) (o : Options) (part : List ℕ) (c : Circuit) (xs items : List ℕ) → IsPartBy auto o part c xs items → first_fault c items o.p o.r o.w xs ≡ None
    → (fault : PlanFault) → PartRefuses auto part o c xs fault → ⊥
part_not_refused true o part c xs items is accepted fault h = h
part_not_refused false o part c xs items is accepted fault (inl h) = no_item_fault (items_of part) items fault is h
part_not_refused false o part c xs items is accepted fault (inr h) =
    none_some (first_fault c h.0 o.p o.r o.w xs) fault (ap (λ items. first_fault c items o.p o.r o.w xs) (one_numbers (items_of part) h.0 items h.1 is) ∙ accepted) h.2

pub planned_not_refused : (o : Options) (part : List ℕ) (c : Circuit) (xs : List ℕ) (j : Job) → IsPlannedJob o part c xs j → (fault : PlanFault) → PlanRefusesBy (Some part) o c xs fault → ⊥
planned_not_refused o part c xs j p fault h = part_not_refused (is_auto part) o part c xs p.items p.part_is p.accepted fault h

planned_has_cut : (auto : Bool) (o : Options) (part : List ℕ) (c : Circuit) (xs items : List ℕ) → auto ≡ true → IsPartBy auto o part c xs items → NoneAllowed o c xs → ⊥
planned_has_cut true o part c xs items e is none = none is.0 is.1.some_in_one is.1.some_in_two is.1.allowed
planned_has_cut false o part c xs items e is none = false≢true e

no_auto : (o : Options) → o.part ≡ None → asks_auto o.part ≡ true → ⊥
no_auto o e auto = false≢true (sym (ap asks_auto e) ∙ auto)

pub planned_part_not_refused : (o : Options) (part : List ℕ) (c : Circuit) (xs : List ℕ) (j : Job) → o.part ≡ Some part → IsPlannedJob o part c xs j → (r : Refusal) → CircuitRefuses o r c xs → ⊥
planned_part_not_refused o part c xs j e p CircuitTooLong h = h
planned_part_not_refused o part c xs j e p (CircuitLine line why) h = h
planned_part_not_refused o part c xs j e p BitsTooLong h = h
planned_part_not_refused o part c xs j e p (BitsLine line why) h = h
planned_part_not_refused o part c xs j e p (Plan fault) h = planned_not_refused o part c xs j p fault (subst (λ q. PlanRefusesBy q o c xs fault) e h)
planned_part_not_refused o part c xs j e p (ProbTooDeep weight) h = none_some o.part part h.uncut e
planned_part_not_refused o part c xs j e p NoCut h = planned_has_cut (is_auto part) o part c xs p.items (sym (ap asks_auto e) ∙ h.auto) p.part_is h.none

narrow_not_refused : (o : Options) (c : Circuit) (xs : List ℕ) → c.qubits ≤ 16 → (fault : PlanFault) → PlanRefusesBy None o c xs fault → ⊥
narrow_not_refused o c xs l fault h = too_long c.qubits 16 l h.1

-- a circuit of at most 16 qubits is not refused where amplitudes are asked for
pub amplitudes_not_refused : (o : Options) (c : Circuit) (xs : List ℕ) → o.part ≡ None → o.prob ≡ false → c.qubits ≤ 16 → (r : Refusal) → CircuitRefuses o r c xs → ⊥
amplitudes_not_refused o c xs e off l CircuitTooLong h = h
amplitudes_not_refused o c xs e off l (CircuitLine line why) h = h
amplitudes_not_refused o c xs e off l BitsTooLong h = h
amplitudes_not_refused o c xs e off l (BitsLine line why) h = h
amplitudes_not_refused o c xs e off l (Plan fault) h = narrow_not_refused o c xs l fault (subst (λ q. PlanRefusesBy q o c xs fault) e h)
amplitudes_not_refused o c xs e off l (ProbTooDeep weight) h = false≢true (sym off ∙ h.asked)
amplitudes_not_refused o c xs e off l NoCut h = no_auto o e h.auto

-- nor one whose weight is at most 120
pub shallow_not_refused : (o : Options) (c : Circuit) (xs : List ℕ) → o.part ≡ None → c.qubits ≤ 16 → total_weight c.gates ≤ 120 → (r : Refusal) → CircuitRefuses o r c xs → ⊥
shallow_not_refused o c xs e l low CircuitTooLong h = h
shallow_not_refused o c xs e l low (CircuitLine line why) h = h
shallow_not_refused o c xs e l low BitsTooLong h = h
shallow_not_refused o c xs e l low (BitsLine line why) h = h
shallow_not_refused o c xs e l low (Plan fault) h = narrow_not_refused o c xs l fault (subst (λ q. PlanRefusesBy q o c xs fault) e h)
shallow_not_refused o c xs e l low (ProbTooDeep weight) h = too_long weight 120 (subst (λ n. n ≤ 120) (sym h.weight_is) low) h.deep
shallow_not_refused o c xs e l low NoCut h = no_auto o e h.auto

whole_not_refused : (prob : Bool) (o : Options) (c : Circuit) (xs : List ℕ) (strings : List (List ℕ)) (text : List ℕ) → o.prob ≡ prob → o.part ≡ None
    → IsWholeAnswer prob o.generated c strings text → (r : Refusal) → CircuitRefuses o r c xs → ⊥
whole_not_refused true o c xs strings text on e a r h = shallow_not_refused o c xs e a.narrow a.shallow r h
whole_not_refused false o c xs strings text off e a r h = amplitudes_not_refused o c xs e off a.narrow r h

-- what is answered is not refused
pub answered_not_refused : (part : Option (List ℕ)) (o : Options) (after : Face) (c : Circuit) (xs : List ℕ) (strings : List (List ℕ)) (text : List ℕ) → o.part ≡ part
    → map index_of strings ≡ xs → IsAnswerBy part o after c strings text → (r : Refusal) → CircuitRefuses o r c xs → ⊥
answered_not_refused None o after c xs strings text q e a r h = whole_not_refused o.prob o c xs strings text refl q a r h
answered_not_refused (Some part) o after c xs strings text q e a r h =
    planned_part_not_refused o part c xs a.job q (subst (λ ys. IsPlannedJob o part c ys a.job) e a.planned) r h

-- what was printed is not refused
printed_not_refused : (o : Options) (circuit bits out : Seen) (after : Face) (front : List ℕ → List ℕ) (p : Prints o circuit bits out after front)
    (r : Refusal) → CircuitRefuses o r p.value p.indices → ⊥
printed_not_refused o circuit bits out after front p r h =
    answered_not_refused o.part o after p.value p.indices _ p.text refl (asked_indices o.max_time circuit bits p.value p.indices o.generated p.input) p.answer r h

-- the stop of a plan's fault
pub plan_stops : (P : PlanFault → Type 0) (none : Type 0) (fault : PlanFault) → (fault ≢ PlanMemory → P fault) → PlanMayStop P none (stop_of fault)
plan_stops P none (PartText item) h = h (λ e. cc)
plan_stops P none (NoSuchQubit qubit) h = h (λ e. cc)
plan_stops P none (QubitTwice qubit) h = h (λ e. cc)
plan_stops P none EmptyPart h = h (λ e. cc)
plan_stops P none (PartTooWide qubits) h = h (λ e. cc)
plan_stops P none (TooManyCrossing count) h = h (λ e. cc)
plan_stops P none (TooManyPaths log2) h = h (λ e. cc)
plan_stops P none (PrefixRoot crossing) h = h (λ e. cc)
plan_stops P none (PrefixValue prefixes) h = h (λ e. cc)
plan_stops P none (TooManyRanges ranges) h = h (λ e. cc)
plan_stops P none (JournalTooLong bytes) h = h (λ e. cc)
plan_stops P none (UncutTooWide qubits) h = h (λ e. cc)
plan_stops P none PlanMemory h = tt

-- ---- an input that was taken is not refused where its circuit is not
module _ (o : Options) (circuit bits : Seen) where
  held : (c : Circuit) (xs : List ℕ) → IsRead o.max_time circuit bits c xs → (P : Circuit → List ℕ → Type 0)
      → FilesHold (λ known P. IsSomeAnd known P) o.max_time P circuit.before bits.before → P c xs
  held c xs a P h =
      let t = read_told circuit.before circuit.after a.circuit_bytes _ a.circuit_read h in
      let same = same_circuit _ _ _ a.circuit_file.read t.1.read in
      let u = read_told bits.before bits.after a.bits_bytes _ a.bits_read t.2 in
      let these = same_bits _ _ _ (sym (ap (λ (c : Circuit). bits_of c.qubits a.bits_bytes) same) ∙ a.bits_file.read) u.1.read in
      subst (λ ys. P c ys) (sym these) (subst (λ d. P d u.0) (sym same) u.2)

  files_not_refused : (c : Circuit) (xs : List ℕ) → IsRead o.max_time circuit bits c xs → ((r : Refusal) → CircuitRefuses o r c xs → ⊥)
      → (r : Refusal) → FilesRefuse (λ known P. IsSomeAnd known P) o r circuit.before bits.before → ⊥
  files_not_refused c xs a ok CircuitTooLong h =
      too_long _ _ a.circuit_file.short (read_told circuit.before circuit.after a.circuit_bytes (λ bytes. 2 ^ 20 < length bytes) a.circuit_read h)
  files_not_refused c xs a ok (CircuitLine line why) h =
      circuit_clash _ _ _ a.circuit_file.read (read_told circuit.before circuit.after a.circuit_bytes _ a.circuit_read h).1
  files_not_refused c xs a ok BitsTooLong h =
      let t = read_told circuit.before circuit.after a.circuit_bytes _ a.circuit_read h in
      too_long _ _ a.bits_file.short (read_told bits.before bits.after a.bits_bytes (λ bytes. 2 ^ 18 < length bytes) a.bits_read t.2)
  files_not_refused c xs a ok (BitsLine line why) h =
      let t = read_told circuit.before circuit.after a.circuit_bytes _ a.circuit_read h in
      let same = same_circuit _ _ _ a.circuit_file.read t.1.read in
      let u = read_told bits.before bits.after a.bits_bytes _ a.bits_read t.2 in
      bits_clash _ _ _ (sym (ap (λ (c : Circuit). bits_of c.qubits a.bits_bytes) same) ∙ a.bits_file.read) u.1
  files_not_refused c xs a ok (Plan fault) h = ok (Plan fault) (held c xs a (CircuitRefuses o (Plan fault)) h)
  files_not_refused c xs a ok (ProbTooDeep weight) h = ok (ProbTooDeep weight) (held c xs a (CircuitRefuses o (ProbTooDeep weight)) h)
  files_not_refused c xs a ok NoCut h = ok NoCut (held c xs a (CircuitRefuses o NoCut) h)

  size_not_refused : (size : GenSize) (c : Circuit) (xs : List ℕ) → IsGenerated size c xs → ((r : Refusal) → CircuitRefuses o r c xs → ⊥) → (r : Refusal) → SizeRefuses o size r → ⊥
  size_not_refused size c xs a ok r h =
      ok r (subst (λ ys. CircuitRefuses o r c ys) (sym a.indices) (subst (λ d. CircuitRefuses o r d (first_indices d.qubits)) (sym a.circuit) h))

  pub input_not_refused : (g : Option GenSize) (c : Circuit) (xs : List ℕ) → IsInput g o.max_time circuit bits c xs → ((r : Refusal) → CircuitRefuses o r c xs → ⊥)
      → (r : Refusal) → RefusesBy g (λ known P. IsSomeAnd known P) o r circuit.before bits.before → ⊥
  input_not_refused None c xs a ok r h = files_not_refused c xs a ok r h
  input_not_refused (Some size) c xs a ok r h = size_not_refused size c xs a ok r h

-- ---- what the parts of the call stop with
files_refuse : (o : Options) (circuit bits : Seen) (r : Refusal) → FilesMayStop o.max_time circuit bits (Refused r) → FilesRefuse (λ known P. IfSome known P) o r circuit.before bits.before
files_refuse o circuit bits CircuitTooLong h = h
files_refuse o circuit bits (CircuitLine line why) h = h
files_refuse o circuit bits BitsTooLong h = h
files_refuse o circuit bits (BitsLine line why) h = h
files_refuse o circuit bits (Plan fault) h = absurd h
files_refuse o circuit bits (ProbTooDeep weight) h = absurd h
files_refuse o circuit bits NoCut h = absurd h

files_words : (o : Options) (circuit bits : Seen) (r : Refusal) → o.generated ≡ None → FilesMayStop o.max_time circuit bits (Refused r) → IsOfWords o r
files_words o circuit bits CircuitTooLong e h = e
files_words o circuit bits (CircuitLine line why) e h = e
files_words o circuit bits BitsTooLong e h = e
files_words o circuit bits (BitsLine line why) e h = e
files_words o circuit bits (Plan fault) e h = absurd h
files_words o circuit bits (ProbTooDeep weight) e h = absurd h
files_words o circuit bits NoCut e h = absurd h

pub input_cause : (o : Options) (circuit bits out : Seen) (disk after old old_after : Face) (g : Option GenSize) → o.generated ≡ g → (stop : Stop) → InputMayStop g o.max_time circuit bits stop → MayStopBy o circuit bits out disk after old old_after stop
input_cause o circuit bits out disk after old old_after None e Usage h = absurd h
input_cause o circuit bits out disk after old old_after None e (Refused r) h = (files_words o circuit bits r e h, subst (λ g. RefusesBy g (λ known P. IfSome known P) o r circuit.before bits.before) (sym e) (files_refuse o circuit bits r h))
input_cause o circuit bits out disk after old old_after None e (OverflowGate gate) h = absurd h
input_cause o circuit bits out disk after old old_after None e (OverflowPath path) h = absurd h
input_cause o circuit bits out disk after old old_after None e (ReadFault OfCircuit) h = (e, h)
input_cause o circuit bits out disk after old old_after None e (ReadFault OfBits) h = (e, h.0, h.1)
input_cause o circuit bits out disk after old old_after None e DiskFault h = absurd h
input_cause o circuit bits out disk after old old_after None e (WriteFault n) h = absurd h
input_cause o circuit bits out disk after old old_after None e (Journal r) h = absurd h
input_cause o circuit bits out disk after old old_after None e Memory h = tt
input_cause o circuit bits out disk after old old_after (Some size) e stop h = subst (MayStopBy o circuit bits out disk after old old_after) (sym h) tt

-- a refusal of the circuit is one of the request
files_hold : (T : ℕ) (circuit bits : Seen) (c : Circuit) (xs : List ℕ) → IsRead T circuit bits c xs → (P : Circuit → List ℕ → Type 0) → P c xs
    → FilesHold (λ known P. IfSome known P) T P circuit.before bits.before
files_hold T circuit bits c xs a P h =
    read_holds circuit.before circuit.after a.circuit_bytes _ a.circuit_read
    (c, a.circuit_file, read_holds bits.before bits.after a.bits_bytes _ a.bits_read (xs, a.bits_file, h))

size_refuses : (o : Options) (size : GenSize) (c : Circuit) (xs : List ℕ) → IsGenerated size c xs → (r : Refusal) → CircuitRefuses o r c xs → SizeRefuses o size r
size_refuses o size c xs a r h = subst (λ d. CircuitRefuses o r d (first_indices d.qubits)) a.circuit (subst (λ ys. CircuitRefuses o r c ys) a.indices h)

plan_refused : (o : Options) (circuit bits : Seen) (g : Option GenSize) (c : Circuit) (xs : List ℕ) → IsInput g o.max_time circuit bits c xs → (fault : PlanFault) → PlanRefuses o c xs fault
    → RefusesBy g (λ known P. IfSome known P) o (Plan fault) circuit.before bits.before
plan_refused o circuit bits None c xs a fault h = files_hold o.max_time circuit bits c xs a (CircuitRefuses o (Plan fault)) h
plan_refused o circuit bits (Some size) c xs a fault h = size_refuses o size c xs a (Plan fault) h

deep_refused : (o : Options) (circuit bits : Seen) (g : Option GenSize) (c : Circuit) (xs : List ℕ) → IsInput g o.max_time circuit bits c xs → (weight : ℕ) → IsTooDeep o c weight
    → RefusesBy g (λ known P. IfSome known P) o (ProbTooDeep weight) circuit.before bits.before
deep_refused o circuit bits None c xs a weight h = files_hold o.max_time circuit bits c xs a (CircuitRefuses o (ProbTooDeep weight)) h
deep_refused o circuit bits (Some size) c xs a weight h = size_refuses o size c xs a (ProbTooDeep weight) h

no_cut_refused : (o : Options) (circuit bits : Seen) (g : Option GenSize) (c : Circuit) (xs : List ℕ) → IsInput g o.max_time circuit bits c xs → HasNoCut o c xs
    → RefusesBy g (λ known P. IfSome known P) o NoCut circuit.before bits.before
no_cut_refused o circuit bits None c xs a h = files_hold o.max_time circuit bits c xs a (CircuitRefuses o NoCut) h
no_cut_refused o circuit bits (Some size) c xs a h = size_refuses o size c xs a NoCut h

no_cut_cause : (o : Options) (circuit bits : Seen) (c : Circuit) (xs : List ℕ) → IsInput o.generated o.max_time circuit bits c xs → HasNoCut o c xs
    → IsOfWords o NoCut × Refuses (λ known P. IfSome known P) o NoCut circuit.before bits.before
no_cut_cause o circuit bits c xs a h = (h.auto, no_cut_refused o circuit bits o.generated c xs a h)

plan_cause : (o : Options) (circuit bits : Seen) (c : Circuit) (xs : List ℕ) → IsInput o.generated o.max_time circuit bits c xs → (fault : PlanFault) → PlanRefuses o c xs fault
    → IsOfWords o (Plan fault) × Refuses (λ known P. IfSome known P) o (Plan fault) circuit.before bits.before
plan_cause o circuit bits c xs a fault h = (words_of_plan o.part o c xs fault h, plan_refused o circuit bits o.generated c xs a fault h)

deep_cause : (o : Options) (circuit bits : Seen) (c : Circuit) (xs : List ℕ) → IsInput o.generated o.max_time circuit bits c xs → (weight : ℕ) → IsTooDeep o c weight
    → IsOfWords o (ProbTooDeep weight) × Refuses (λ known P. IfSome known P) o (ProbTooDeep weight) circuit.before bits.before
deep_cause o circuit bits c xs a weight h = ((h.asked, h.uncut), deep_refused o circuit bits o.generated c xs a weight h)

-- the job of a plan over an input that was taken
pub taken_job : (o : Options) (circuit bits : Seen) (c : Circuit) (xs : List ℕ) → IsInput o.generated o.max_time circuit bits c xs
    → (part : List ℕ) → o.part ≡ Some part → (j : Job) → IsPlannedJob o part c xs j → Takes o circuit bits j
taken_job o circuit bits c xs a part e j p = record { value = c; indices = xs; input = a; part = part; cut = e; planned = p }

-- a run that is over
overflows : (o : Options) (circuit bits : Seen) (disk after old : Face) (Granted : ℕ → Type 0) (path : ℕ) (j : Job) → Takes o circuit bits j
    → IsRun (keeping o) j old disk after Granted (Over path) → OverflowsOn o circuit bits after path
overflows o circuit bits disk after old Granted path j t r = record {
  job = j;
  taken = t;
  slots = r.whole.slots;
  ended = r.whole.ended;
  full = r.whole.full;
  over = r.whole.total_is;
  unkept = λ e. sym (r.unkept (not_kept o e));
}

uncut_cause : (o : Options) (circuit bits out : Seen) (disk after old old_after : Face) (c : Circuit) (xs : List ℕ) → IsInput o.generated o.max_time circuit bits c xs
    → o.part ≡ None → (stop : Stop) → UncutMayStop o.prob c stop → MayStopBy o circuit bits out disk after old old_after stop
uncut_cause o circuit bits out disk after old old_after c xs a e Usage h = absurd h
uncut_cause o circuit bits out disk after old old_after c xs a e (Refused CircuitTooLong) h = absurd h
uncut_cause o circuit bits out disk after old old_after c xs a e (Refused (CircuitLine line why)) h = absurd h
uncut_cause o circuit bits out disk after old old_after c xs a e (Refused BitsTooLong) h = absurd h
uncut_cause o circuit bits out disk after old old_after c xs a e (Refused (BitsLine line why)) h = absurd h
uncut_cause o circuit bits out disk after old old_after c xs a e (Refused (Plan fault)) h =
    plan_cause o circuit bits c xs a fault (subst (λ p. PlanRefusesBy p o c xs fault) (sym e) h)
uncut_cause o circuit bits out disk after old old_after c xs a e (Refused (ProbTooDeep weight)) h =
    deep_cause o circuit bits c xs a weight (record { asked = h.0; uncut = e; narrow = h.1; weight_is = h.2; deep = h.3 })
uncut_cause o circuit bits out disk after old old_after c xs a e (Refused NoCut) h = absurd h
uncut_cause o circuit bits out disk after old old_after c xs a e (OverflowGate gate) h =
    record { value = c; indices = xs; input = a; uncut = e; amplitudes = h.0; narrow = h.1; over = h.2 }
uncut_cause o circuit bits out disk after old old_after c xs a e (OverflowPath path) h = absurd h
uncut_cause o circuit bits out disk after old old_after c xs a e (ReadFault input) h = absurd h
uncut_cause o circuit bits out disk after old old_after c xs a e DiskFault h = absurd h
uncut_cause o circuit bits out disk after old old_after c xs a e (WriteFault n) h = absurd h
uncut_cause o circuit bits out disk after old old_after c xs a e Memory h = tt
uncut_cause o circuit bits out disk after old old_after c xs a e (Journal r) h = absurd h

cut_cause : (o : Options) (circuit bits out : Seen) (disk after old old_after : Face) (Granted : ℕ → Type 0) (c : Circuit) (xs : List ℕ)
    → IsInput o.generated o.max_time circuit bits c xs → (part : List ℕ) → o.part ≡ Some part
    → (stop : Stop) → CutMayStop o part c xs disk after old old_after Granted stop → MayStopBy o circuit bits out disk after old old_after stop
cut_cause o circuit bits out disk after old old_after Granted c xs a part e Usage h = absurd h.stops
cut_cause o circuit bits out disk after old old_after Granted c xs a part e (Refused CircuitTooLong) h = absurd h.stops
cut_cause o circuit bits out disk after old old_after Granted c xs a part e (Refused (CircuitLine line why)) h = absurd h.stops
cut_cause o circuit bits out disk after old old_after Granted c xs a part e (Refused BitsTooLong) h = absurd h.stops
cut_cause o circuit bits out disk after old old_after Granted c xs a part e (Refused (BitsLine line why)) h = absurd h.stops
cut_cause o circuit bits out disk after old old_after Granted c xs a part e (Refused (Plan fault)) h =
    plan_cause o circuit bits c xs a fault (subst (λ p. PlanRefusesBy p o c xs fault) (sym e) h)
cut_cause o circuit bits out disk after old old_after Granted c xs a part e (Refused (ProbTooDeep weight)) h = absurd h.stops
cut_cause o circuit bits out disk after old old_after Granted c xs a part e (Refused NoCut) h =
    no_cut_cause o circuit bits c xs a (record { auto = ap asks_auto e ∙ h.0; none = h.1 })
cut_cause o circuit bits out disk after old old_after Granted c xs a part e (OverflowGate gate) h = absurd h.stops
cut_cause o circuit bits out disk after old old_after Granted c xs a part e (OverflowPath path) h =
    overflows o circuit bits disk after old Granted path h.job (taken_job o circuit bits c xs a part e h.job h.planned) h.stops
cut_cause o circuit bits out disk after old old_after Granted c xs a part e (ReadFault input) h = absurd h.stops
cut_cause o circuit bits out disk after old old_after Granted c xs a part e DiskFault h = ((h.job, taken_job o circuit bits c xs a part e h.job h.planned), h.stops)
cut_cause o circuit bits out disk after old old_after Granted c xs a part e (WriteFault n) h = absurd h.stops
cut_cause o circuit bits out disk after old old_after Granted c xs a part e Memory h = tt
cut_cause o circuit bits out disk after old old_after Granted c xs a part e (Journal r) h = (h.job, taken_job o circuit bits c xs a part e h.job h.planned, h.stops.0)

pub answer_cause : (o : Options) (circuit bits out : Seen) (disk after old old_after : Face) (Granted : ℕ → Type 0) (c : Circuit) (xs : List ℕ)
    → IsInput o.generated o.max_time circuit bits c xs → (part : Option (List ℕ)) → o.part ≡ part
    → (stop : Stop) → AnswerMayStop part o c xs disk after old old_after Granted stop → MayStopBy o circuit bits out disk after old old_after stop
answer_cause o circuit bits out disk after old old_after Granted c xs a None e stop h = uncut_cause o circuit bits out disk after old old_after c xs a e stop h
answer_cause o circuit bits out disk after old old_after Granted c xs a (Some part) e stop h = cut_cause o circuit bits out disk after old old_after Granted c xs a part e stop h

-- ---- how a request that is refused may stop
reading_circuit : (circuit bits : Seen) (r : Refusal) → Rises circuit → FilesReading circuit bits r
reading_circuit circuit bits CircuitTooLong rose = rose
reading_circuit circuit bits (CircuitLine line why) rose = rose
reading_circuit circuit bits BitsTooLong rose = inl rose
reading_circuit circuit bits (BitsLine line why) rose = inl rose
reading_circuit circuit bits (Plan fault) rose = inl rose
reading_circuit circuit bits (ProbTooDeep weight) rose = inl rose
reading_circuit circuit bits NoCut rose = inl rose

both : (o : Option (List ℕ)) (P Q : List ℕ → Type 0) (R : Type 0) → IfSome o P → IsSomeAnd o Q → ((xs : List ℕ) → P xs → Q xs → R) → R
both None P Q R p q f = absurd q
both (Some xs) P Q R p q f = f xs p q

reading_bits : (o : Options) (circuit bits : Seen) (r : Refusal) → Rises bits → IfSome circuit.before (λ text. (c : Circuit) × IsCircuitFile o.max_time c text)
    → FilesRefuse (λ known P. IsSomeAnd known P) o r circuit.before bits.before → FilesReading circuit bits r
reading_bits o circuit bits CircuitTooLong rose any h =
    both circuit.before _ (λ bytes. 2 ^ 20 < length bytes) (Rises circuit) any h (λ text p q. absurd (too_long _ _ p.1.short q))
reading_bits o circuit bits (CircuitLine line why) rose any h =
    both circuit.before _ _ (Rises circuit) any h (λ text p q. absurd (circuit_clash _ _ _ p.1.read q.1))
reading_bits o circuit bits BitsTooLong rose any h = inr rose
reading_bits o circuit bits (BitsLine line why) rose any h = inr rose
reading_bits o circuit bits (Plan fault) rose any h = inr rose
reading_bits o circuit bits (ProbTooDeep weight) rose any h = inr rose
reading_bits o circuit bits NoCut rose any h = inr rose

read_fault : (o : Options) (circuit bits : Seen) (status : ℕ) (g : Option GenSize) → o.generated ≡ g → status ≡ 4 → o.generated ≡ None → (r : Refusal)
    → (FilesRefuse (λ known P. IsSomeAnd known P) o r circuit.before bits.before → FilesReading circuit bits r)
    → RefusesBy g (λ known P. IsSomeAnd known P) o r circuit.before bits.before → (status ≡ 4) × ReadingBy g circuit bits r
read_fault o circuit bits status None e s none r f h = (s, f h)
read_fault o circuit bits status (Some size) e s none r f h = absurd (none_some o.generated size none e)

-- a job that was taken is not refused
taken_not_refused : (o : Options) (circuit bits : Seen) (j : Job) → Takes o circuit bits j → (r : Refusal) → Refuses (λ known P. IsSomeAnd known P) o r circuit.before bits.before → ⊥
taken_not_refused o circuit bits j t r h =
    input_not_refused o circuit bits o.generated t.value t.indices t.input
    (planned_part_not_refused o t.part t.value t.indices j t.cut t.planned) r h

pub taken_not_words : (o : Options) (circuit bits : Seen) (j : Job) → Takes o circuit bits j → RefusesAll o → ⊥
taken_not_words o circuit bits j t all =
    let f = all t.value t.indices in
    planned_part_not_refused o t.part t.value t.indices j t.cut t.planned f.0 f.1

pub refused_answer : (o : Options) (status : ℕ) (circuit bits out : Seen) (disk after old old_after : Face) (stop : Stop) → status ≡ status_of stop → MayStopBy o circuit bits out disk after old old_after stop
    → (r : Refusal) → Refuses (λ known P. IsSomeAnd known P) o r circuit.before bits.before
    → (status ≡ 2) ⊎ ((status ≡ 7) ⊎ ((status ≡ 4) × Reading o circuit bits r))
refused_answer o status circuit bits out disk after old old_after Usage e m r h = absurd m
refused_answer o status circuit bits out disk after old old_after (Refused s) e m r h = inl e
refused_answer o status circuit bits out disk after old old_after (OverflowGate gate) e m r h =
    absurd (input_not_refused o circuit bits o.generated m.value m.indices m.input
    (amplitudes_not_refused o m.value m.indices m.uncut m.amplitudes m.narrow) r h)
refused_answer o status circuit bits out disk after old old_after (OverflowPath path) e m r h =
    absurd (taken_not_refused o circuit bits m.job m.taken r h)
refused_answer o status circuit bits out disk after old old_after (ReadFault OfCircuit) e m r h =
    inr (inr (read_fault o circuit bits status o.generated refl e m.0 r (λ k. reading_circuit circuit bits r m.1) h))
refused_answer o status circuit bits out disk after old old_after (ReadFault OfBits) e m r h =
    inr (inr (read_fault o circuit bits status o.generated refl e m.0 r (λ k. reading_bits o circuit bits r m.1 m.2 k) h))
refused_answer o status circuit bits out disk after old old_after DiskFault e m r h = absurd (taken_not_refused o circuit bits m.0.0 m.0.1 r h)
refused_answer o status circuit bits out disk after old old_after (Journal s) e m r h = absurd (taken_not_refused o circuit bits m.0 m.1 r h)
refused_answer o status circuit bits out disk after old old_after (WriteFault n) e m r h =
    absurd (input_not_refused o circuit bits o.generated m.1.0.value m.1.0.indices m.1.0.input (printed_not_refused o circuit bits out after _ m.1.0) r h)
refused_answer o status circuit bits out disk after old old_after Memory e m r h = inr (inl e)

-- ---- how a request whose words alone are refused may stop
pub reads : (o : Options) (circuit bits : Seen) → o.generated ≡ None → Rises circuit ⊎ Rises bits → SourceRises o.generated circuit bits
reads o circuit bits e rose = subst (λ g. SourceRises g circuit bits) (sym e) rose

pub words_answer : (o : Options) (status : ℕ) (circuit bits out : Seen) (disk after old old_after : Face) (stop : Stop) → status ≡ status_of stop → MayStopBy o circuit bits out disk after old old_after stop → RefusesAll o
    → (status ≡ 2) ⊎ ((status ≡ 7) ⊎ ((status ≡ 4) × SourceRises o.generated circuit bits))
words_answer o status circuit bits out disk after old old_after Usage e m all = absurd m
words_answer o status circuit bits out disk after old old_after (Refused s) e m all = inl e
words_answer o status circuit bits out disk after old old_after (OverflowGate gate) e m all =
    let f = all m.value m.indices in
    absurd (amplitudes_not_refused o m.value m.indices m.uncut m.amplitudes m.narrow f.0 f.1)
words_answer o status circuit bits out disk after old old_after (OverflowPath path) e m all = absurd (taken_not_words o circuit bits m.job m.taken all)
words_answer o status circuit bits out disk after old old_after DiskFault e m all = absurd (taken_not_words o circuit bits m.0.0 m.0.1 all)
words_answer o status circuit bits out disk after old old_after (Journal s) e m all = absurd (taken_not_words o circuit bits m.0 m.1 all)
words_answer o status circuit bits out disk after old old_after (ReadFault OfCircuit) e m all = inr (inr (e, reads o circuit bits m.0 (inl m.1)))
words_answer o status circuit bits out disk after old old_after (ReadFault OfBits) e m all = inr (inr (e, reads o circuit bits m.0 (inr m.1)))
words_answer o status circuit bits out disk after old old_after (WriteFault n) e m all =
    let f = all m.1.0.value m.1.0.indices in
    absurd (printed_not_refused o circuit bits out after _ m.1.0 f.0 f.1)
words_answer o status circuit bits out disk after old old_after Memory e m all = inr (inl e)

-- ---- how an accepted request stops where no fault came
accepted_held : (T : ℕ) (cb bb : List ℕ) (c : Circuit) (xs : List ℕ) → IsCircuitFile T c cb → IsBitsFile c xs bb → (P : Circuit → List ℕ → Type 0)
    → FilesHold (λ known P. IfSome known P) T P (Some cb) (Some bb) → P c xs
accepted_held T cb bb c xs d e P h =
    let same = same_circuit _ _ _ d.read h.1.read in
    let these = same_bits _ _ _ (sym (ap (λ (c : Circuit). bits_of c.qubits bb) same) ∙ e.read) h.2.1.read in
    subst (λ ys. P c ys) (sym these) (subst (λ d. P d h.2.0) (sym same) h.2.2)

pub accepted_not_refused : (o : Options) (circuit bits : Option (List ℕ)) (g : Option GenSize) (c : Circuit) (xs : List ℕ) → HasInput g o.max_time circuit bits c xs
    → ((r : Refusal) → CircuitRefuses o r c xs → ⊥) → (r : Refusal) → RefusesBy g (λ known P. IfSome known P) o r circuit bits → ⊥
accepted_not_refused o None bits None c xs a ok r h = absurd a.0
accepted_not_refused o (Some cb) None None c xs a ok r h = absurd a.1
accepted_not_refused o (Some cb) (Some bb) None c xs a ok CircuitTooLong h = too_long _ _ a.0.short h
accepted_not_refused o (Some cb) (Some bb) None c xs a ok (CircuitLine line why) h = circuit_clash _ _ _ a.0.read h.1
accepted_not_refused o (Some cb) (Some bb) None c xs a ok BitsTooLong h = too_long _ _ a.1.short h.2
accepted_not_refused o (Some cb) (Some bb) None c xs a ok (BitsLine line why) h =
    let same = same_circuit _ _ _ a.0.read h.1.read in
    bits_clash _ _ _ (sym (ap (λ (c : Circuit). bits_of c.qubits bb) same) ∙ a.1.read) h.2.1
accepted_not_refused o (Some cb) (Some bb) None c xs a ok (Plan fault) h = ok (Plan fault) (accepted_held o.max_time cb bb c xs a.0 a.1 (CircuitRefuses o (Plan fault)) h)
accepted_not_refused o (Some cb) (Some bb) None c xs a ok (ProbTooDeep weight) h =
    ok (ProbTooDeep weight) (accepted_held o.max_time cb bb c xs a.0 a.1 (CircuitRefuses o (ProbTooDeep weight)) h)
accepted_not_refused o (Some cb) (Some bb) None c xs a ok NoCut h = ok NoCut (accepted_held o.max_time cb bb c xs a.0 a.1 (CircuitRefuses o NoCut) h)
accepted_not_refused o circuit bits (Some size) c xs a ok r h =
    ok r (subst (λ ys. CircuitRefuses o r c ys) (sym a.indices) (subst (λ d. CircuitRefuses o r d (first_indices d.qubits)) (sym a.circuit) h))

-- ---- what was printed is no refusal
pub printed_refused : (o : Options) (circuit bits out : Seen) (after : Face) → Prints o circuit bits out after (λ text. text)
    → (r : Refusal) → Refuses (λ known P. IsSomeAnd known P) o r circuit.before bits.before → ⊥
printed_refused o circuit bits out after p r h =
    input_not_refused o circuit bits o.generated p.value p.indices p.input (printed_not_refused o circuit bits out after _ p) r h

pub printed_words : (o : Options) (circuit bits out : Seen) (after : Face) → Prints o circuit bits out after (λ text. text) → RefusesAll o → ⊥
printed_words o circuit bits out after p all = let f = all p.value p.indices in printed_not_refused o circuit bits out after _ p f.0 f.1
