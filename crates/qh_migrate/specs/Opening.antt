-- How a run's journal is opened, why it is not, and what may follow on it.
use Rattle.std.specs.Prelude.{◌≡◌, ℕ, Bool, true, false, List, ⊤, IfSome, IsSomeAnd}
use Rattle.qh_limits.specs.Counts.{Rose}
use Rattle.qh_plan.specs.Jobs.{Job, IsJob}
use Rattle.qh_disk.specs.Disk.{Face, IsSafe, Reads}
use Rattle.qh_disk.specs.Moments.{EachImage, Lasts}
use Rattle.qh_slots.specs.Stands.{Slots, Stands, Made}
use Rattle.qh_slots.specs.declared.fault.AttachFault.{AttachFault}
use Rattle.qh_slots.specs.Record.{Keeping, slots_before, IsFull}
use Rattle.qh_slots.specs.Moments.{OldIsMade, IsUnwritten, GoesOn}
use Rattle.qh_slots.specs.Refusing.{RefusesJournal, RefusesOld}
use Rattle.qh_slots.specs.Keeps.{KeepsJournal}
use Rattle.qh_parts.specs.Sparing.{Spares}
use Rattle.qh_migrate.specs.Faults.{attach_of}
use Rattle.qh_migrate.specs.declared.open_fault.OpenFault.{OpenFault}
use Rattle.qh_migrate.specs.declared.open_fault.OpenFault.TheVariants as fault

-- a run that keeps its record in a journal
abbrev pub keeping : Bool → Bool → Keeping
keeping fresh taking = record { kept = true; fresh = fresh; taking = taking }

-- A journal that is open: its disk is safe and reads as this table of slots, with which the run begins. No disk tells of a refusal. Where it was emptied first,
-- each image was made by runs of the job, if an old journal that was taken over was.
pub record Opened (k : Keeping) (j : Job) (old disk after : Face) (table : Slots) : Type 0 where
  pub valid : IsJob j
  pub keeps : KeepsJournal k j old disk after
  pub safe : IsSafe after
  pub reads : Reads after (Stands j table)
  pub begins : IfSome (slots_before k j disk old) (λ s0. table ≡ s0)
  pub renewed : k.fresh ≡ true → OldIsMade k j disk old → EachImage after (Made j)
  pub accepted : (r : AttachFault) → RefusesJournal (λ known P. IsSomeAnd known P) k j disk r → ⊥
  pub old_accepted : (r : AttachFault) → RefusesOld (λ known P. IsSomeAnd known P) k j disk old r → ⊥

-- Some calls of an open journal with this table: stores of range values alone, some of which may fail, and no writing where each range has a slot.
pub record Continues (j : Job) (table : Slots) (old new : Face) : Type 0 where
  pub spares : Spares j old new
  pub made : Lasts (Made j) old new
  pub goes_on : (s : Slots) → Lasts (GoesOn j s) old new
  pub reads : Reads new (GoesOn j table)
  pub finished : IsFull j table → IsUnwritten old new

-- it is reached through the same loans, and open
pub record Opens {D : Type 0} (face : D → Face) (loans : D → List ℕ) (k : Keeping) (j : Job) (old : Face) (d : D) (table : Slots) (e : D) : Type 0 where
  pub same : loans e ≡ loans d
  pub opened : Opened k j old (face d) (face e) table

-- it is reached through the same loans, and nothing was lost of it
pub record HandsBack {D : Type 0} (face : D → Face) (loans : D → List ℕ) (k : Keeping) (j : Job) (old : Face) (d e : D) : Type 0 where
  pub same : loans e ≡ loans d
  pub keeps : KeepsJournal k j old (face d) (face e)

-- Why it is not opened; `old` and `was` are the old disk before and after. A journal that is refused is not written, unless it was to be emptied.
abbrev pub OpenMayFail : Keeping → Job → OpenFault → Face → Face → Face → Face → Type 0
OpenMayFail k j fault.Disk old was disk after = Rose disk.faults after.faults
OpenMayFail k j fault.OldDisk old was disk after = (k.taking ≡ true) × Rose old.faults was.faults
OpenMayFail k j (fault.Refused why) old was disk after =
    RefusesJournal (λ known P. IfSome known P) k j disk why × (k.fresh ≡ false → IsUnwritten disk after)
OpenMayFail k j (fault.OldRefused why) old was disk after =
    RefusesOld (λ known P. IfSome known P) k j disk old (attach_of why) × (k.fresh ≡ false → IsUnwritten disk after)
OpenMayFail k j fault.Memory old was disk after = ⊤
