-- A run over a journal that was opened, or was not.
use Rattle.std.proofs.Common.{◌≡◌, ◌⊎◌, inl, inr, ℕ, ◌<◌, Bool, true, false, List, Option, Some, None, refl, sym, ap, subst, ◌∙◌}
use Rattle.std.specs.Prelude.{IsSome, IfSome, IsSomeAnd, is_some, option_map}
use Rattle.std.specs.Option.{ForSome}
use Rattle.qh_limits.specs.Counts.{Rose, RoseBy}
use Rattle.qh_limits.proofs.Chains.{rose_before}
use Rattle.qh_plan.specs.declared.verdict.Verdict.{Verdict}
use Rattle.qh_plan.specs.Jobs.{Job, IsJob, ranges}
use Rattle.qh_plan.specs.Values.{run_value}
use Rattle.qh_disk.specs.Disk.{Face, IsImage, Reads}
use Rattle.qh_disk.specs.Moments.{IsStableAt, EachImage}
use Rattle.qh_slots.specs.Stands.{Slots, slot_at, nones, AreTrue, Holds}
use Rattle.qh_slots.specs.Attaching.{slots_of}
use Rattle.qh_slots.specs.declared.fault.AttachFault.{AttachFault}
use Rattle.qh_slots.proofs.StandLemmas.{one_map}
use Rattle.qh_slots.specs.Record.{Keeping, slots_before, slots_after, Extends, IsFull, IsEnd, IfTold, count_bare}
use Rattle.qh_slots.specs.Moments.{BeginsTrue, GoesOn, IsUnwritten}
use Rattle.qh_slots.specs.Keeps.{KeepsJournal, IsWhole}
use Rattle.qh_slots.specs.Refusing.{RefusesJournal, RefusesOld, Accepts}
use Rattle.qh_migrate.specs.Faults.{attach_of}
use Rattle.qh_migrate.specs.declared.open_fault.OpenFault.{OpenFault}
use Rattle.qh_migrate.specs.declared.open_fault.OpenFault.TheVariants as fault
use Rattle.qh_migrate.specs.Opening.{Opened, Opens, OpenMayFail, keeping}
use Rattle.qh_migrate.proofs.OptionLemmas.{some_from, some_to, some_map, map_has, is_some_has, one_value}
use Rattle.qh_migrate.proofs.MomentLemmas.{unwritten_same}
use Rattle.qh_journal.specs.Calls.{Went}
use Rattle.qh_board.specs.Board.{Serves}
use Rattle.qh_migrate.proofs.RunLemmas.{keeps_on}
use Rattle.qh_migrate.proofs.AnswerLemmas.{IsOldRefused, refused_told, old_refused_told, accepted_told}
use Rattle.qh_run.specs.declared.ended.RunEnd.{RunEnd}
use Rattle.qh_run.specs.declared.ended.RunEnd.TheVariants.{Sums, Over, Disk, OldDisk, Refused, OldRefused, Memory}
use Rattle.qh_run.specs.Ends.{answer_of, IsFaultless, MayEnd, EndsOldRefused, IsComplete}
use Rattle.qh_run.specs.Carrying.{MayLeave, Completes}
use Rattle.qh_run.specs.Opened.{end_of, RunsOn}
use Rattle.qh_run.proofs.RecordLemmas.{before_told, before_true, extended_true, full_total, nones_true}

-- ---- the journal was opened
module _ {D : Type 0} (face : D → Face) (loans : D → List ℕ) (fresh taking : Bool) (j : Job) (old : Face) (d mid e : D) (table : Slots) (end : RunEnd)
    (opens : Opens face loans (keeping fresh taking) j old d table mid) (runs : RunsOn face loans j table end mid e) where
  pub opened_keeps : KeepsJournal (keeping fresh taking) j old (face d) (face e)
  opened_keeps = keeps_on fresh taking j old (face d) (face mid) (face e) table opens.opened runs.continues

  pub opened_loans : loans e ≡ loans d
  opened_loans = runs.same ∙ opens.same

  pub opened_ends : (was : Face) → MayEnd (keeping fresh taking) j old was (face d) (face e) end
  opened_ends was = by end runs.cause
    where
      by : (end : RunEnd) → MayLeave face (Some mid) (Some e) end → MayEnd (keeping fresh taking) j old was (face d) (face e) end
      by (Sums sums) cause = tt
      by (Over path) cause = tt
      by Disk cause = rose_before _ _ _ opens.opened.keeps.runs.faults cause
      by OldDisk cause = absurd cause
      by (Refused why) cause = absurd cause
      by (OldRefused why) cause = absurd cause
      by Memory cause = tt

  pub opened_complete : IsFaultless (face d) (face e) → IsComplete (keeping fresh taking) j old (face d) end
  opened_complete quiet = record {
    refused = λ r why. absurd (opens.opened.accepted r why);
    old_refused = λ r why. absurd (opens.opened.old_accepted r why);
    accepted = λ accepts. by end runs.cause;
  }
    where
      by : (end : RunEnd) → MayLeave face (Some mid) (Some e) end → IsSome (answer_of end) ⊎ (end ≡ Memory)
      by (Sums sums) cause = inl refl
      by (Over path) cause = inl refl
      by Disk cause = absurd (quiet (rose_before _ _ _ opens.opened.keeps.runs.faults cause))
      by OldDisk cause = absurd cause
      by (Refused why) cause = absurd cause
      by (OldRefused why) cause = absurd cause
      by Memory cause = inr refl

  pub opened_granted : (before after : ℕ) → (IsSome (answer_of end) → RoseBy (count_bare j table) before after) → IsSome (answer_of end)
      → IfSome (slots_before (keeping fresh taking) j (face d) old) (λ s0. RoseBy (count_bare j s0) before after)
  opened_granted before after granted some =
      some_map (slots_before (keeping fresh taking) j (face d) old) (λ s0. table ≡ s0) (λ s0. RoseBy (count_bare j s0) before after)
      (λ s0 same. subst (λ s. RoseBy (count_bare j s) before after) same (granted some)) opens.opened.begins

  -- the record at the end
  module _ (answer : Verdict) (c : Completes face j table (Some e) answer) where
    after_is : (s1 : Slots) → slots_after (keeping fresh taking) j (face e) ≡ Some s1 → c.slots ≡ s1
    after_is s1 told =
        let has = map_has (slots_of j) (face e).content s1 told in
        sym (one_map j opens.opened.valid c.slots has.value (c.reads e refl has.value has.is)) ∙ has.holds

    stable_at : (r : ℕ) → r < ranges j → IsStableAt (Holds j r) (face e).clock (face e)
    stable_at r below = let has = is_some_has (slot_at c.slots r) (c.full r below) in (has.value, c.stable e refl r has.value has.is)

    told_after : (s0 : Slots) → table ≡ s0 → IfSome (slots_after (keeping fresh taking) j (face e)) (λ s1. Extends j s0 s1 × IsFull j s1)
    told_after s0 same = some_from (slots_after (keeping fresh taking) j (face e)) (λ s1. Extends j s0 s1 × IsFull j s1) (λ s1 told.
        let now = after_is s1 told in
        (subst (λ (s : Slots). Extends j s s1) same (subst (Extends j table) now c.extends), subst (IsFull j) now c.full))

    exact_answer : Reads (face d) (IsImage (face d)) → Reads old (IsImage old) → BeginsTrue (keeping fresh taking) j (face d) old → answer ≡ run_value j
    exact_answer current current_old begins =
        let has = is_some_has (slots_before (keeping fresh taking) j (face d) old) (before_told (keeping fresh taking) j (face d) old begins) in
        let same : table ≡ has.value = some_to (slots_before (keeping fresh taking) j (face d) old) (λ s0. table ≡ s0) has.value opens.opened.begins has.is in
        let true_slots : AreTrue j has.value = before_true (keeping fresh taking) j opens.opened.valid (face d) old has.value current current_old begins has.is in
        sym c.total_is ∙ full_total j c.slots c.full (extended_true j table c.slots c.extends (subst (AreTrue j) (sym same) true_slots))

    whole_by : Reads (face d) (IsImage (face d)) → Reads old (IsImage old) → IsWhole (keeping fresh taking) j old (face d) (face e) answer
    whole_by current current_old = record {
      safe = λ kept r below. stable_at r below;
      recorded = some_map (slots_before (keeping fresh taking) j (face d) old) (λ s0. table ≡ s0)
          (λ s0. IfSome (slots_after (keeping fresh taking) j (face e)) (λ s1. Extends j s0 s1 × IsFull j s1)) told_after opens.opened.begins;
      slots = c.slots;
      ended = some_from (slots_after (keeping fresh taking) j (face e)) (λ s1. c.slots ≡ s1) after_is;
      full = c.full;
      total_is = c.total_is;
      exact = exact_answer current current_old;
    }

  pub opened_whole : Reads (face d) (IsImage (face d)) → Reads old (IsImage old) → IfSome (answer_of end) (IsWhole (keeping fresh taking) j old (face d) (face e))
  opened_whole current current_old = some_map (answer_of end) (Completes face j table (Some e)) (IsWhole (keeping fresh taking) j old (face d) (face e))
      (λ answer c. whole_by answer c current current_old) runs.whole

-- ---- it was not
none_of : (stop : OpenFault) → answer_of (end_of stop) ≡ None
none_of fault.Disk = refl
none_of fault.OldDisk = refl
none_of (fault.Refused why) = refl
none_of (fault.OldRefused why) = refl
none_of fault.Memory = refl

pub unopened_none : (stop : OpenFault) (end : RunEnd) (P : Verdict → Type 0) → end ≡ end_of stop → IfSome (answer_of end) P
unopened_none stop end P is = subst (λ o. IfSome o P) (sym (ap answer_of is ∙ none_of stop)) tt

pub unopened_some : (stop : OpenFault) (end : RunEnd) (A : Type 0) → end ≡ end_of stop → IsSome (answer_of end) → A
unopened_some stop end A is some = absurd (wrong (sym (ap is_some (ap answer_of is ∙ none_of stop)) ∙ some))
  where
    wrong : false ≡ true → ⊥
    wrong e = cc

pub unopened_ends : (fresh taking : Bool) (j : Job) (old was disk after : Face) (stop : OpenFault) (end : RunEnd) → end ≡ end_of stop
    → OpenMayFail (keeping fresh taking) j stop old was disk after → MayEnd (keeping fresh taking) j old was disk after end
unopened_ends fresh taking j old was disk after stop end is may = subst (MayEnd (keeping fresh taking) j old was disk after) (sym is) (by stop may)
  where
    by : (stop : OpenFault) → OpenMayFail (keeping fresh taking) j stop old was disk after → MayEnd (keeping fresh taking) j old was disk after (end_of stop)
    by fault.Disk may = may
    by fault.OldDisk may = may
    by (fault.Refused why) may = may
    by (fault.OldRefused why) may = may
    by fault.Memory may = tt

pub unopened_complete : (fresh taking : Bool) (j : Job) (old was disk after : Face) (stop : OpenFault) (end : RunEnd) → end ≡ end_of stop
    → OpenMayFail (keeping fresh taking) j stop old was disk after → IsFaultless disk after → IsFaultless old was → IsComplete (keeping fresh taking) j old disk end
unopened_complete fresh taking j old was disk after stop end is may quiet old_quiet = record {
  refused = λ r why. elim (refused_told fresh taking j old was disk after quiet old_quiet r why stop may) [
    | inl same ↦ inl (is ∙ ap end_of same)
    | inr same ↦ inr (is ∙ ap end_of same)
  ];
  old_refused = λ r why. subst (EndsOldRefused r) (sym is) (elim (old_refused_told fresh taking j old was disk after quiet old_quiet r why stop may) [
    | inl same ↦ subst (λ s. EndsOldRefused r (end_of s)) (sym same.is) same.means
    | inr same ↦ subst (λ s. EndsOldRefused r (end_of s)) (sym same) tt
  ]);
  accepted = λ accepts. inr (is ∙ ap end_of (accepted_told fresh taking j old was disk after quiet old_quiet accepts stop may));
}

-- ---- there is none
none_ends : {D : Type 0} (face : D → Face) (disk : Option D) (end : RunEnd) → MayLeave face None disk end → IsSome (answer_of end) ⊎ (end ≡ Memory)
none_ends face disk (Sums sums) cause = inl refl
none_ends face disk (Over path) cause = inl refl
none_ends face disk Disk cause = absurd cause
none_ends face disk OldDisk cause = absurd cause
none_ends face disk (Refused why) cause = absurd cause
none_ends face disk (OldRefused why) cause = absurd cause
none_ends face disk Memory cause = inr refl

pub unkept_ends : {D : Type 0} (face : D → Face) (before disk : Option D) (end : RunEnd) → before ≡ None → MayLeave face before disk end → IsSome (answer_of end) ⊎ (end ≡ Memory)
unkept_ends face before disk end none cause = none_ends face disk end (subst (λ o. MayLeave face o disk end) none cause)

pub unkept_whole : {D : Type 0} (face : D → Face) (j : Job) (table : Slots) (disk : Option D) (end : RunEnd) → table ≡ nones j → IfSome (answer_of end) (Completes face j table disk)
    → IfSome (answer_of end) (λ answer. answer ≡ run_value j)
unkept_whole face j table disk end bare whole = some_map (answer_of end) (Completes face j table disk) (λ answer. answer ≡ run_value j)
    (λ answer c. sym c.total_is ∙ full_total j c.slots c.full (extended_true j table c.slots c.extends (subst (AreTrue j) (sym bare) (nones_true j)))) whole

-- ---- the disk that is handed back
pub went_is_some : {D : Type 0} (P : D → D → Type 0) (old new : Option D) → Went P old new → IsSome old → IsSome new
went_is_some P None new went some = absurd (wrong some)
  where
    wrong : false ≡ true → ⊥
    wrong e = cc
went_is_some P (Some d) None went some = absurd went
went_is_some P (Some d) (Some e) went some = refl

pub runs_from : {D : Type 0} (face : D → Face) (loans : D → List ℕ) (j : Job) (table : Slots) (end : RunEnd) (disk left : Option D) (e : D) → left ≡ Some e
    → Went (Serves face loans j) disk left → ForSome left (λ e. Reads (face e) (GoesOn j table)) → (IsFull j table → left ≡ disk)
    → IfSome (answer_of end) (Completes face j table left) → MayLeave face disk left end → ForSome disk (λ d. RunsOn face loans j table end d e)
runs_from {D} face loans j table end disk left e is went goes finished whole cause d at = record {
  same = serves.same.same;
  continues = record {
    spares = serves.spares;
    made = serves.made;
    goes_on = serves.goes_on;
    reads = goes e is;
    finished = λ full. subst (λ (x : D). IsUnwritten (face d) (face x)) (one_value d e (sym at ∙ sym (finished full) ∙ is)) (unwritten_same (face d));
  };
  whole = subst (λ o. IfSome (answer_of end) (Completes face j table o)) is whole;
  cause = subst (λ o. MayLeave face o (Some e) end) at (subst (λ o. MayLeave face disk o end) is cause);
}
  where
    serves : Serves face loans j d e
    serves = subst (λ o. Went (Serves face loans j) (Some d) o) is (subst (λ o. Went (Serves face loans j) o left) at went)
