-- The inputs of a merge, and the disks that hold them.
use Rattle.std.specs.Prelude.{◌≡◌, ◌⊎◌, ℕ, List, [], ◌∷◌, length, ⊤, Some, slice_get}
use Rattle.std.specs.Option.{IsSomeAnd}
use Rattle.std.specs.List.{AllZip}
use Rattle.qh_plan.specs.Jobs.{Job, ranges}
use Rattle.qh_plan.specs.Plans.{IsPlanned}
use Rattle.qh_disk.specs.Disk.{Face, IsSafe, Reads}
use Rattle.qh_disk.specs.Looks.{Looks}
use Rattle.qh_slots.specs.Attaching.{first_refusal}
use Rattle.qh_slots.specs.Stands.{Slots, AllFit, Stands}
use Rattle.qh_slots.specs.declared.fault.AttachFault.{AttachFault}
use Rattle.qh_parts.specs.Naming.{Names}

-- the job that a journal names, and its slots
pub record Input : Type 0 where
  pub job : Job
  pub slots : Slots

-- the disk is safe, and reads as the journal of this job with these slots
pub record IsRead (x : Input) (d : Face) : Type 0 where
  pub planned : IsPlanned x.job
  pub count : length x.slots ≡ ranges x.job
  pub fits : AllFit x.job x.slots
  pub safe : IsSafe d
  pub names : Reads d (Names x.job)
  pub stands : Reads d (Stands x.job x.slots)

-- an attach to the job that f names refuses f
pub record IsForeign (f : List ℕ) : Type 0 where
  pub job : Job
  pub names : Names job f
  pub fault : AttachFault
  pub first : first_refusal job f ≡ Some fault

-- f names no job, or is refused by it
abbrev pub IsUnread : List ℕ → Type 0
IsUnread f = ((j : Job) → Names j f → ⊥) ⊎ IsForeign f

-- Inputs are listed the last first: each disk holds the input of its place, which is the number of inputs before it.
abbrev pub AreRead : {D : Type 0} → (D → Face) → List D → List Input → Type 0
AreRead face disks [] = ⊤
AreRead face disks (x ∷ earlier) = IsSomeAnd (slice_get disks (length earlier)) (λ d. IsRead x (face d)) × AreRead face disks earlier

-- some calls of a disk only looked, through the same loans
pub record IsLookedAt {D : Type 0} (face : D → Face) (loans : D → List ℕ) (d e : D) : Type 0 where
  pub same : loans e ≡ loans d
  pub looks : Looks (face d) (face e)

-- and so those of each disk
abbrev pub AllLook : {D : Type 0} → (D → Face) → (D → List ℕ) → List D → List D → Type 0
AllLook face loans old new = AllZip (IsLookedAt face loans) old new
