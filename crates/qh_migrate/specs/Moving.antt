-- What a migration promises: why it stops, and what it leaves.
use Rattle.std.specs.Prelude.{◌≡◌, ℕ, suc, List, [], ◌∷◌, ⊤, Option, Some, None}
use Rattle.qh_limits.specs.Counts.{Rose}
use Rattle.qh_plan.specs.Jobs.{Job}
use Rattle.qh_disk.specs.Disk.{Face, IsSafe, Reads}
use Rattle.qh_disk.specs.Moments.{EachImage, EachImageSince}
use Rattle.qh_slots.specs.Stands.{Slots, Stands, Stands1}
use Rattle.qh_slots.specs.Attaching.{first_refusal1, slots1_of}
use Rattle.qh_slots.specs.declared.fault.AttachFault.{AttachFault}
use Rattle.qh_slots.specs.declared.fault.AttachFault.TheVariants.{DiskFault, Memory}
use Rattle.qh_parts.specs.Sparing.{Spares}
use Rattle.qh_parts.specs.Laying.{IsFresh}
use Rattle.qh_migrate.specs.Faults.{attach_of}
use Rattle.qh_migrate.specs.declared.fault.MigrateFault.{MigrateFault}
use Rattle.qh_migrate.specs.declared.fault.MigrateFault.TheVariants as migrate

-- how many slots are open
abbrev pub count_open : Slots → ℕ
count_open [] = 0
count_open (None ∷ s) = count_open s
count_open (Some v ∷ s) = suc (count_open s)

-- why the reading of the old journal stops
abbrev pub OldMayFail : Job → AttachFault → Face → Face → Type 0
OldMayFail j DiskFault old new = Rose old.faults new.faults
OldMayFail j Memory old new = ⊤
OldMayFail j fault old new = Reads old (λ f. first_refusal1 j f ≡ Some fault)

-- the old file is a journal of the first format of the job, with some slots
pub record IsAccepted (j : Job) (was : Face) : Type 0 where
  pub slots : Slots
  pub stood : Reads was (Stands1 j slots)

-- why a migration stops; but where the new disk failed, no call was made on it. It is not written before the old file is read whole.
abbrev pub MigrateMayFail : {F D : Type 0} → (F → Face) → (D → Face) → Job → MigrateFault → F → F → D → D → Type 0
MigrateMayFail old new j migrate.OldDisk f g d e = Rose (old f).faults (old g).faults × (e ≡ d)
MigrateMayFail old new j migrate.NewDisk f g d e = Rose (new d).faults (new e).faults × IsAccepted j (old f)
MigrateMayFail old new j (migrate.Refused why) f g d e = Reads (old f) (λ c. first_refusal1 j c ≡ Some (attach_of why)) × (e ≡ d)
MigrateMayFail old new j migrate.Memory f g d e = e ≡ d

-- What it leaves of a new disk whose only image was the empty file: each image at each moment is not begun, or stands for the job with these slots;
-- they are the slots of the old file, where that is told; and what is stable stays stable.
pub record Leaves (j : Job) (was old new : Face) : Type 0 where
  pub slots : Slots
  pub are_old : Reads was (λ f. slots1_of j f ≡ slots)
  pub since : EachImageSince old.clock new (IsFresh j slots)
  pub spares : Spares j old new
  pub reads : Reads new (IsFresh j slots)

-- What it leaves where it ends well: the only image stands for the job with the slots of the old file, which are so many.
pub record Moved (j : Job) (count : ℕ) (was new : Face) : Type 0 where
  pub slots : Slots
  pub stood : Reads was (Stands1 j slots)
  pub safe : IsSafe new
  pub stands : EachImage new (Stands j slots)
  pub reads : Reads new (Stands j slots)
  pub counted : count ≡ count_open slots
