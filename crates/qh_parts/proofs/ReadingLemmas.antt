-- Calls that read alone follow one another, and why the reading of all slots stops.
use Rattle.std.proofs.Common.{◌≡◌, ◌<◌, inl, inr, ℕ, false, List, [], ◌∷◌, ◌++◌, length, Option, Some, None, Result, sym, subst, ◌∙◌, arith}
use Rattle.std.specs.Option.{IfSome}
use Rattle.std.proofs.lemmas.Bool.{cases_order}
use Rattle.std.proofs.lemmas.List.{get_or_append_left, get_or_at, get_or_past, length-append}
use Rattle.qh_limits.proofs.Chains.{rose_before}
use Rattle.qh_plan.specs.declared.verdict.Verdict.{Verdict}
use Rattle.qh_plan.specs.Jobs.{Job, IsJob, ranges}
use Rattle.qh_plan.specs.Ranges.{Fits}
use Rattle.qh_disk.specs.Disk.{Face, Reads, Calls, Unchanged}
use Rattle.qh_disk.specs.Looks.{Looks}
use Rattle.qh_disk.specs.declared.failed.Failed.{Failed}
use Rattle.qh_disk.proofs.Moments.{le_cases}
use Rattle.qh_disk.proofs.Looking.{looks_same, looks_call, looks_on}
use Rattle.qh_slots.specs.Slots.{SlotIs}
use Rattle.qh_slots.specs.Stands.{Slots, slot_at, AllFit}
use Rattle.qh_slots.specs.Attaching.{first_bad, is_good}
use Rattle.qh_slots.specs.declared.fault.AttachFault.{AttachFault}
use Rattle.qh_slots.specs.declared.fault.AttachFault.TheVariants.{DiskFault, Empty, Unbegun, OldJournal, NotAJournal, OtherJob, BadLength, BadSlot, Memory}
use Rattle.qh_slots.proofs.SpellingLemmas.{good_from}
use Rattle.qh_slots.proofs.StandLemmas.{bad_first}
use Rattle.qh_parts.specs.Reading.{OnlyReads, SlotMayFail, SlotsMayFail}

-- ---- calls that read alone: none, one, one run after another
pub only_reads_same : (d : Face) → OnlyReads d d
only_reads_same d = record { looks = looks_same d; kept = λ t c low most is. let same : t ≡ d.clock = omega arith in subst (λ (n : ℕ). d.images_at n c) (sym same) is }

pub only_reads_call : {T : Type 0} (result : Result T Failed) (old new : Face) → Calls result old new → Unchanged old new → OnlyReads old new
only_reads_call result old new call same = record {
  looks = looks_call result old new call same;
  kept = λ t c low most is. elim (le_cases t old.clock) [
    | inl before ↦ call.kept t c before (subst (λ (n : ℕ). old.images_at n c) (let e : old.clock ≡ t = omega arith in e) is)
    | inr after ↦ subst (λ (n : ℕ). new.images_at n c) (let e : new.clock ≡ t = let soon = call.soon in omega arith in e) (same.kept c is)
  ];
}

pub only_reads_on : (old mid new : Face) → OnlyReads old mid → OnlyReads mid new → OnlyReads old new
only_reads_on old mid new a b = record {
  looks = looks_on old mid new a.looks b.looks;
  kept = λ t c low most is. elim (le_cases t mid.clock) [
    | inl before ↦ b.looks.runs.kept t c before (a.kept t c low before is)
    | inr after ↦ b.kept t c (omega arith) most (a.kept mid.clock c a.looks.runs.later (omega arith) is)
  ];
}

-- ---- the first slot that is bad
bad_here : (h : List ℕ) (j : Job) → IsJob j → (table : Slots) (r : ℕ) (old mid : Face) → r < ranges j → Looks old mid → Reads mid (λ f. (q : ℕ) → q < r → SlotIs h j q f (slot_at table q)) → Reads mid (λ f. is_good h j f r ≡ false)
    → Reads old (λ f. first_bad h j f ≡ Some r)
bad_here h j is table r old mid below first known bad f told =
    let now = first.content ∙ told in
    bad_first h j f r below (λ q low. good_from h j is q (omega arith) f (slot_at table q) (known f now q low)) (bad f now)

pub slot_fault : (h : List ℕ) (j : Job) → IsJob j → (table : Slots) (r : ℕ) (fault : AttachFault) (old mid new : Face) → r < ranges j → Looks old mid → Reads mid (λ f. (q : ℕ) → q < r → SlotIs h j q f (slot_at table q))
    → SlotMayFail h j r fault mid new → SlotsMayFail h j fault old new
slot_fault h j is table r DiskFault old mid new below first known why = rose_before old.faults mid.faults new.faults first.runs.faults why
slot_fault h j is table r Memory old mid new below first known why = tt
slot_fault h j is table r Empty old mid new below first known why = (r, why.0, bad_here h j is table r old mid below first known why.1)
slot_fault h j is table r Unbegun old mid new below first known why = (r, why.0, bad_here h j is table r old mid below first known why.1)
slot_fault h j is table r OldJournal old mid new below first known why = (r, why.0, bad_here h j is table r old mid below first known why.1)
slot_fault h j is table r NotAJournal old mid new below first known why = (r, why.0, bad_here h j is table r old mid below first known why.1)
slot_fault h j is table r (OtherJob k) old mid new below first known why = (r, why.0, bad_here h j is table r old mid below first known why.1)
slot_fault h j is table r (BadLength k) old mid new below first known why = (r, why.0, bad_here h j is table r old mid below first known why.1)
slot_fault h j is table r (BadSlot k) old mid new below first known why = (r, why.0, bad_here h j is table r old mid below first known why.1)

-- one slot more fits
pub fits_more : (j : Job) (s : Slots) (o : Option Verdict) (i : ℕ) → length s ≡ i → AllFit j s → IfSome o (Fits j i) → AllFit j (s ++ o ∷ [])
fits_more j s o i size all here = record {
  each = λ r v e. elim (cases_order r i) [
    | inl same ↦ subst (λ (n : ℕ). Fits j n v) (sym same) (here_fits o v here (sym (get_or_at s o [] None r (size ∙ sym same)) ∙ e))
    | inr (inl below) ↦ all.each r v (sym (get_or_append_left s (o ∷ []) None r (omega arith)) ∙ e)
    | inr (inr above) ↦ absurd (none v (sym (get_or_past (s ++ o ∷ []) r None (let n = length-append s (o ∷ []) in omega arith)) ∙ e))
  ];
}
  where
    none : (v : Verdict) → None ≡ Some v → ⊥
    none v e = cc

    here_fits : (o : Option Verdict) (v : Verdict) → IfSome o (Fits j i) → o ≡ Some v → Fits j i v
    here_fits None v h e = absurd (none v e)
    here_fits (Some w) v h e = subst (Fits j i) (let s : w ≡ v = cc in s) h
