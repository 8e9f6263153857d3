-- The table that is told before a run, and the line of a stop behind it.
use Rattle.std.proofs.Common.{◌≡◌, ℕ, Bool, true, false, inl, inr, List, [], ◌++◌, Some, None, IfSome, refl, sym, ap, subst, arith}
use Rattle.std.specs.declared.option.Option.{Option}
use Rattle.std.specs.Io.KnownBytes.{Appends}
use Rattle.std.proofs.KnownBytes.{Appends-nil}
use Rattle.std.proofs.lemmas.Bool.{false≢true}
use Rattle.qh_gates.specs.Circuits.{Circuit}
use Rattle.qh_disk.specs.Disk.{Face}
use Rattle.qh_planner.specs.Spelling.{table_text}
use Rattle.qh_planner.specs.declared.row.CutRow.{CutRow}
use Rattle.qh_words.specs.declared.options.Options.{Options}
use Rattle.qh_words.specs.declared.size.GenSize.{GenSize}
use Rattle.qh_request.specs.Seen.{Seen, seen}
use Rattle.qh_request.specs.Stops.{message_of, Says}
use Rattle.qh_request.proofs.Saying.{says_whole, says_append, says_stop}
use Rattle.qh_request.specs.declared.stop.Refusal.TheVariants.{CircuitTooLong, CircuitLine, BitsTooLong, BitsLine, Plan, ProbTooDeep, NoCut}
use Rattle.qh_request.specs.declared.stop.Stop.{Stop}
use Rattle.qh_request.specs.declared.stop.Stop.TheVariants.{Usage, Refused, OverflowGate, OverflowPath, ReadFault, DiskFault, WriteFault, Memory, Journal}
use Rattle.qh_request.specs.Inputs.{IsInput}
use Rattle.qh_request.specs.Chosen.{asks_auto, IsTableBy}
use Rattle.qh_request.specs.Parts.{FilesMayStop, InputMayStop, UncutMayStop, CutMayStop, AnswerMayStop}
use Rattle.qh_request.specs.Outcomes.{IsTableText, IsBefore, IsSaid, SaysBefore, TellsTable, Tells}

-- nothing was said
pub nothing_said : (held : Option (List ℕ)) (faults : ℕ) → IsSaid (record { before = held; after = held; faults = faults; faults_after = faults }) true []
nothing_said held faults = record {
  says = says_whole held held faults faults [] (omega arith) (Appends-nil held);
  whole = λ e. Appends-nil held;
  cause = λ e. absurd (false≢true (sym e));
}

-- before the input
files_before : (o : Options) (T : ℕ) (circuit bits : Seen) (stop : Stop) → FilesMayStop T circuit bits stop → IsBefore o circuit bits stop []
files_before o T circuit bits Usage h = refl
files_before o T circuit bits (Refused CircuitTooLong) h = refl
files_before o T circuit bits (Refused (CircuitLine line why)) h = refl
files_before o T circuit bits (Refused BitsTooLong) h = refl
files_before o T circuit bits (Refused (BitsLine line why)) h = refl
files_before o T circuit bits (Refused (Plan fault)) h = absurd h
files_before o T circuit bits (Refused (ProbTooDeep weight)) h = absurd h
files_before o T circuit bits (Refused NoCut) h = absurd h
files_before o T circuit bits (OverflowGate gate) h = absurd h
files_before o T circuit bits (OverflowPath path) h = absurd h
files_before o T circuit bits (ReadFault input) h = refl
files_before o T circuit bits DiskFault h = absurd h
files_before o T circuit bits (WriteFault n) h = absurd h
files_before o T circuit bits Memory h = inl refl
files_before o T circuit bits (Journal r) h = absurd h

pub input_before : (o : Options) (T : ℕ) (circuit bits : Seen) (g : Option GenSize) (stop : Stop) → InputMayStop g T circuit bits stop → IsBefore o circuit bits stop []
input_before o T circuit bits None stop h = files_before o T circuit bits stop h
input_before o T circuit bits (Some size) stop h = subst (λ s. IsBefore o circuit bits s []) (sym h) (inl refl)

module _ (o : Options) (circuit bits : Seen) (c : Circuit) (xs : List ℕ) (input : IsInput o.generated o.max_time circuit bits c xs) (rows : List CutRow) where
  text_by : (auto : Bool) → IsTableBy auto o c xs rows → IsTableText auto o circuit bits (table_text rows)
  text_by true h = record { value = c; indices = xs; input = input; rows = rows; is_table = h; text_is = refl }
  text_by false h = ap table_text h

  pub table_is : IsTableBy (asks_auto o.part) o c xs rows → IsTableText (asks_auto o.part) o circuit bits (table_text rows)
  table_is h = text_by (asks_auto o.part) h

  uncut_before : (prob : Bool) → IsTableText (asks_auto o.part) o circuit bits (table_text rows) → (stop : Stop) → UncutMayStop prob c stop
      → IsBefore o circuit bits stop (table_text rows)
  uncut_before prob t Usage h = absurd h
  uncut_before prob t (Refused CircuitTooLong) h = absurd h
  uncut_before prob t (Refused (CircuitLine line why)) h = absurd h
  uncut_before prob t (Refused BitsTooLong) h = absurd h
  uncut_before prob t (Refused (BitsLine line why)) h = absurd h
  uncut_before prob t (Refused (Plan fault)) h = t
  uncut_before prob t (Refused (ProbTooDeep weight)) h = t
  uncut_before prob t (Refused NoCut) h = absurd h
  uncut_before prob t (OverflowGate gate) h = t
  uncut_before prob t (OverflowPath path) h = absurd h
  uncut_before prob t (ReadFault input) h = absurd h
  uncut_before prob t DiskFault h = absurd h
  uncut_before prob t (WriteFault n) h = absurd h
  uncut_before prob t Memory h = inr t
  uncut_before prob t (Journal r) h = absurd h

  cut_before : (part : List ℕ) (disk after old old_after : Face) (Granted : ℕ → Type 0) → IsTableText (asks_auto o.part) o circuit bits (table_text rows)
      → (stop : Stop) → CutMayStop o part c xs disk after old old_after Granted stop → IsBefore o circuit bits stop (table_text rows)
  cut_before part disk after old old_after Granted t Usage h = absurd h.stops
  cut_before part disk after old old_after Granted t (Refused CircuitTooLong) h = absurd h.stops
  cut_before part disk after old old_after Granted t (Refused (CircuitLine line why)) h = absurd h.stops
  cut_before part disk after old old_after Granted t (Refused BitsTooLong) h = absurd h.stops
  cut_before part disk after old old_after Granted t (Refused (BitsLine line why)) h = absurd h.stops
  cut_before part disk after old old_after Granted t (Refused (Plan fault)) h = t
  cut_before part disk after old old_after Granted t (Refused (ProbTooDeep weight)) h = t
  cut_before part disk after old old_after Granted t (Refused NoCut) h = t
  cut_before part disk after old old_after Granted t (OverflowGate gate) h = t
  cut_before part disk after old old_after Granted t (OverflowPath path) h = t
  cut_before part disk after old old_after Granted t (ReadFault input) h = absurd h.stops
  cut_before part disk after old old_after Granted t DiskFault h = t
  cut_before part disk after old old_after Granted t (WriteFault n) h = t
  cut_before part disk after old old_after Granted t Memory h = inr t
  cut_before part disk after old old_after Granted t (Journal r) h = t

  pub answer_before : (part : Option (List ℕ)) (disk after old old_after : Face) (Granted : ℕ → Type 0) → IsTableBy (asks_auto o.part) o c xs rows
      → (stop : Stop) → AnswerMayStop part o c xs disk after old old_after Granted stop → IsBefore o circuit bits stop (table_text rows)
  answer_before None disk after old old_after Granted h stop m = uncut_before o.prob (table_is h) stop m
  answer_before (Some part) disk after old old_after Granted h stop m = cut_before part disk after old old_after Granted (table_is h) stop m

  -- with status 0 the table alone
  told_by : (auto : Bool) (err : Seen) → IsTableText auto o circuit bits (table_text rows) → Says err (table_text rows) → TellsTable auto o circuit bits err
  told_by true err t says = (table_text rows, t, says)
  told_by false err t says = tt

  pub table_told : (err : Seen) → IsTableBy (asks_auto o.part) o c xs rows → Says err (table_text rows) → TellsTable (asks_auto o.part) o circuit bits err
  table_told err h says = told_by (asks_auto o.part) err (table_is h) says

pub unsaid : {K : Type 0} (held : K → Option (List ℕ)) (faults : K → ℕ) (old : K) (w : Bool) → w ≡ true → IsSaid (seen held faults old old) w []
unsaid held faults old w open_still = subst (λ v. IsSaid (seen held faults old old) v []) (sym open_still) (nothing_said (held old) (faults old))

-- want of memory before anything was said
pub unsaid_memory : {K : Type 0} (held : K → Option (List ℕ)) (faults : K → ℕ) (old new : K) (w : Bool) → new ≡ old → w ≡ true
    → (o : Options) (circuit bits : Seen) (stop : Stop) → stop ≡ Memory → SaysBefore o circuit bits (seen held faults old new) w stop
unsaid_memory held faults old new w same open_still o circuit bits stop is = (
  [],
  subst (λ s. IsBefore o circuit bits s []) (sym is) (inl refl),
  subst (λ v. IsSaid (seen held faults old new) v []) (sym open_still) (subst (λ e. IsSaid (seen held faults old e) true []) (sym same) (nothing_said (held old) (faults old))),
)

pub words_unsaid : {K : Type 0} (held : K → Option (List ℕ)) (faults : K → ℕ) (old : K) (w : Bool) → w ≡ true
    → (asked : Option Options) (circuit bits : Seen) → IfSome asked (λ o. SaysBefore o circuit bits (seen held faults old old) w Memory)
words_unsaid held faults old w open_still None circuit bits = tt
words_unsaid held faults old w open_still (Some o) circuit bits = unsaid_memory held faults old old w refl open_still o circuit bits Memory refl

-- the line of the stop behind what was said before
module _ {K : Type 0} (held : K → Option (List ℕ)) (faults : K → ℕ) (old mid new : K) (w : Bool) (stop : Stop)
    (told : w ≡ true → Says (seen held faults mid new) (message_of stop)) (silent : w ≡ false → new ≡ mid) where
  both_said : (table : List ℕ) → IsSaid (seen held faults old mid) w table → Says (seen held faults old new) (table ++ message_of stop)
  both_said table said = by w refl
    where
      by : (b : Bool) → w ≡ b → Says (seen held faults old new) (table ++ message_of stop)
      by true e = says_append (held old) (held mid) (held new) (faults old) (faults mid) (faults new) table (message_of stop) said.says.later (said.whole e) (told e)
      by false e =
          subst (λ n. Says (seen held faults old n) (table ++ message_of stop)) (sym (silent e))
          (says_stop (held old) (held mid) (faults old) (faults mid) table (message_of stop) said.says (said.cause e))

  pub told_on : (asked : Option Options) (circuit bits : Seen) → (asked ≡ None → (mid ≡ old) × (w ≡ true))
      → IfSome asked (λ o. SaysBefore o circuit bits (seen held faults old mid) w stop) → Tells asked circuit bits (seen held faults old new) stop
  told_on None circuit bits unsaid said = let u = unsaid refl in subst (λ e. Says (seen held faults e new) (message_of stop)) u.0 (told u.1)
  told_on (Some o) circuit bits unsaid said = (said.0, said.1, both_said said.0 said.2)
