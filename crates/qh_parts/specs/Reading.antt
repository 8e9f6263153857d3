-- Calls that read alone, and why the reading of a journal stops.
use Rattle.std.specs.Prelude.{◌≡◌, ◌≤◌, ℕ, List, ⊤, false, Some}
use Rattle.qh_limits.specs.Counts.{Rose}
use Rattle.qh_plan.specs.Jobs.{Job}
use Rattle.qh_disk.specs.Disk.{Face, IsImage, Reads}
use Rattle.qh_disk.specs.Looks.{Looks}
use Rattle.qh_slots.specs.Attaching.{first_bad, is_good}
use Rattle.qh_slots.specs.declared.fault.AttachFault.{AttachFault}
use Rattle.qh_slots.specs.declared.fault.AttachFault.TheVariants.{DiskFault, BadSlot, Memory}

-- Some calls that read alone: they look, and each image at first is one at each moment of them.
pub record OnlyReads (old new : Face) : Type 0 where
  pub looks : Looks old new
  pub kept : (t : ℕ) (c : List ℕ) → old.clock ≤ t → t ≤ new.clock → IsImage old c → new.images_at t c

-- why the reading of the bytes before the slots stops
abbrev pub FrontMayFail : AttachFault → Face → Face → Type 0
FrontMayFail DiskFault old new = Rose old.faults new.faults
FrontMayFail Memory old new = ⊤
FrontMayFail fault old new = ⊥

-- why the reading of the slot of range r stops, where the head is h
abbrev pub SlotMayFail : List ℕ → Job → ℕ → AttachFault → Face → Face → Type 0
SlotMayFail h j r DiskFault old new = Rose old.faults new.faults
SlotMayFail h j r Memory old new = ⊤
SlotMayFail h j r fault old new = (fault ≡ BadSlot r) × Reads old (λ f. is_good h j f r ≡ false)

-- why the reading of all slots stops
abbrev pub SlotsMayFail : List ℕ → Job → AttachFault → Face → Face → Type 0
SlotsMayFail h j DiskFault old new = Rose old.faults new.faults
SlotsMayFail h j Memory old new = ⊤
SlotsMayFail h j fault old new = (r : ℕ) × (fault ≡ BadSlot r) × Reads old (λ f. first_bad h j f ≡ Some r)
