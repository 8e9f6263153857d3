-- The moments of a run's journal and of the old one.
use Rattle.std.specs.Prelude.{◌≡◌, ◌≢◌, ◌⊎◌, ℕ, ◌≤◌, true, false, List, [], is_some}
use Rattle.std.proofs.Common.{get_or}
use Rattle.qh_plan.specs.declared.verdict.Verdict.{Verdict}
use Rattle.qh_plan.specs.Jobs.{Job}
use Rattle.qh_disk.specs.Disk.{Face, IsImage}
use Rattle.qh_disk.specs.Moments.{EachImage, EachImageAt, EachImageSince}
use Rattle.qh_slots.specs.Layout.{mark}
use Rattle.qh_slots.specs.Stands.{Slots, Stands, Made, Made1, Holds}
use Rattle.qh_slots.specs.Record.{Keeping, Migrates, Extends}

-- the disk tells what it reads as, and P holds of each image
pub record TellsAndEach (P : List ℕ → Type 0) (d : Face) : Type 0 where
  pub told : is_some d.content ≡ true
  pub each : EachImage d P

-- an old journal that is to be taken over was made by runs of the job
abbrev pub OldIsMade : Keeping → Job → Face → Face → Type 0
OldIsMade k j disk old = Migrates k disk → TellsAndEach (Made1 j) old

-- so was each image of the journal
pub record IsMade (k : Keeping) (j : Job) (disk old : Face) : Type 0 where
  pub journal : EachImage disk (Made j)
  pub taken : OldIsMade k j disk old

-- the slots that the run begins with are true: there is no journal, or it is emptied, or it was made by runs of the job
pub record BeginsTrue (k : Keeping) (j : Job) (disk old : Face) : Type 0 where
  pub told : k.kept ≡ true → is_some disk.content ≡ true
  pub journal : k.kept ≡ true → k.fresh ≡ false → EachImage disk (Made j)
  pub taken : OldIsMade k j disk old

-- an image that was one at entry, or that runs of the job make
abbrev pub IsOldOrMade : Job → Face → List ℕ → Type 0
IsOldOrMade j disk c = IsImage disk c ⊎ Made j c

-- from moment t on, a slot that each image of one moment holds is held by each image of each later moment
abbrev pub StaysStable : Job → ℕ → Face → Type 0
StaysStable j t d = (r : ℕ) (v : Verdict) (before now : ℕ) → t ≤ before → before ≤ now → now ≤ d.clock
    → EachImageAt before d (Holds j r v) → EachImageAt now d (Holds j r v)

-- the empty file is the only image of moment t
abbrev pub IsEmptyAt : ℕ → Face → Type 0
IsEmptyAt t d = EachImageAt t d (λ c. c ≡ [])

-- it reads as before, and each image of the run was one at entry
pub record IsUnwritten (old new : Face) : Type 0 where
  pub content : new.content ≡ old.content
  pub images : EachImageSince old.clock new (IsImage old)

-- and at each moment of the run each image at entry is one
pub record IsReadOnly (old new : Face) : Type 0 where
  pub unwritten : IsUnwritten old new
  pub kept : (t : ℕ) (c : List ℕ) → old.clock ≤ t → t ≤ new.clock → IsImage old c → new.images_at t c

-- f stands for the job with some slots
pub record StandsFor (j : Job) (f : List ℕ) : Type 0 where
  pub slots : Slots
  pub stands : Stands j slots f

-- it stands for the job with these slots unchanged, and each other slot holds its range's value
pub record GoesOn (j : Job) (s0 : Slots) (f : List ℕ) : Type 0 where
  pub slots : Slots
  pub stands : Stands j slots f
  pub extends : Extends j s0 slots

-- an image that was one at entry, or is not begun, or goes on from these slots
abbrev pub IsOldOrGoesOn : Job → Slots → Face → List ℕ → Type 0
IsOldOrGoesOn j s0 disk c = IsImage disk c ⊎ ((get_or c 0 0 ≢ mark) ⊎ GoesOn j s0 c)
