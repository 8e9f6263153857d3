-- What a run promises of its journal, and of its record.
use Rattle.std.specs.Prelude.{◌≡◌, ℕ, ◌<◌, ◌≤◌, true, false, List, [], IfSome, IsSomeAnd}
use Rattle.qh_plan.specs.declared.verdict.Verdict.{Verdict}
use Rattle.qh_plan.specs.Jobs.{Job, IsJob, ranges}
use Rattle.qh_plan.specs.Verdicts.{total}
use Rattle.qh_plan.specs.Values.{run_value}
use Rattle.qh_disk.specs.Disk.{Face}
use Rattle.qh_disk.specs.Moments.{EachImageSince, IsStableAt, Runs}
use Rattle.qh_slots.specs.Stands.{Slots, slot_at, Made, Holds}
use Rattle.qh_slots.specs.declared.fault.AttachFault.{AttachFault}
use Rattle.qh_slots.specs.Record.{Keeping, counted, taken_over, IfTold, IsEnd, Extends, IsFull, Grows, IsFinished}
use Rattle.qh_slots.specs.Moments.{IsMade, OldIsMade, BeginsTrue, IsOldOrMade, IsOldOrGoesOn, StaysStable, IsEmptyAt, IsUnwritten}
use Rattle.qh_slots.specs.Refusing.{RefusesJournal, RefusesOld}

-- What a run, or a part of it from its start, does to its journal, however it ends. `old` is the old journal at entry.
pub record KeepsJournal (k : Keeping) (j : Job) (old disk after : Face) : Type 0 where
  pub runs : Runs disk after
  -- where each image at entry was made by runs of the job, so is each image of each moment; where it is emptied first, each is one at entry or made so
  pub made : IsMade k j disk old → EachImageSince disk.clock after (Made j)
  pub renewed : k.fresh ≡ true → OldIsMade k j disk old → EachImageSince disk.clock after (IsOldOrMade j disk)
  -- an empty journal goes only over images that are not begun to ones that keep every slot that is taken over
  pub begun : IsSomeAnd disk.content (λ f. counted k f ≡ []) → IfSome (taken_over k j old.content)
      (λ before. EachImageSince disk.clock after (IsOldOrGoesOn j before disk))
  -- a slot that is stable at a moment stays stable, of whatever job; where it is emptied first, from a moment at which the empty file is the only image
  pub stable : k.fresh ≡ false → (i : Job) → IsJob i → StaysStable i disk.clock after
  pub stable_new : (t : ℕ) → disk.clock ≤ t → IsEmptyAt t after → StaysStable j t after
  -- the slots at entry stand unchanged, and each other slot holds its range's value
  pub grows : k.fresh ≡ false → IfTold k j disk old after (Grows k j disk)
  -- a journal that was finished, or that is refused, is not written
  pub finished : k.fresh ≡ false → IsFinished j disk → IsUnwritten disk after
  pub refused : (r : AttachFault) → k.fresh ≡ false → RefusesJournal (λ known P. IsSomeAnd known P) k j disk r → IsUnwritten disk after
  pub old_refused : (r : AttachFault) → k.fresh ≡ false → RefusesOld (λ known P. IsSomeAnd known P) k j disk old r → IsUnwritten disk after

-- The run is whole: each range has its slot, on a disk a stable one, and this verdict is the total of the slots that it ends with. Where the slots that it
-- began with are true, that is the value of the run.
pub record IsWhole (k : Keeping) (j : Job) (old disk after : Face) (verdict : Verdict) : Type 0 where
  pub safe : k.kept ≡ true → (r : ℕ) → r < ranges j → IsStableAt (Holds j r) after.clock after
  pub recorded : IfTold k j disk old after (λ s0 s1. Extends j s0 s1 × IsFull j s1)
  pub slots : Slots
  pub ended : IsEnd k j after slots
  pub full : IsFull j slots
  pub total_is : total j (slot_at slots) ≡ verdict
  pub exact : BeginsTrue k j disk old → verdict ≡ run_value j
