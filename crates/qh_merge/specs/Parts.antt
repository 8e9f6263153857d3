-- The parts of a merge: what each answers, and why it fails.
use Rattle.std.specs.Prelude.{◌≡◌, ◌≢◌, ◌⊎◌, ◌<◌, ℕ, List, length, All, ⊤, Some, None, IsSome, slice_get}
use Rattle.std.specs.Option.{IsSomeAnd}
use Rattle.qh_limits.specs.Limits.{coefficient_bits}
use Rattle.qh_ring.specs.Numbers.{IsWithin}
use Rattle.qh_limits.specs.Counts.{Rose}
use Rattle.qh_gates.specs.Circuits.{total_weight}
use Rattle.qh_plan.specs.declared.verdict.Verdict.{Verdict}
use Rattle.qh_plan.specs.Jobs.{Job, IsJob, ranges}
use Rattle.qh_plan.specs.Ranges.{IsSameButPrefix}
use Rattle.qh_disk.specs.Disk.{Face}
use Rattle.qh_slots.specs.Stands.{Slots, slot_at}
use Rattle.qh_slots.specs.declared.fault.AttachFault.{AttachFault}
use Rattle.qh_slots.specs.declared.fault.AttachFault.TheVariants as attach
use Rattle.qh_print.specs.Output.{IsText}
use Rattle.qh_parts.specs.declared.job_fault.JobFault.{JobFault}
use Rattle.qh_parts.specs.declared.job_fault.JobFault.TheVariants as job
use Rattle.qh_parts.specs.Naming.{IsFound}
use Rattle.qh_merge.specs.declared.input.Taken.{Taken}
use Rattle.qh_merge.specs.declared.input.ReadFault.{ReadFault}
use Rattle.qh_merge.specs.declared.input.ReadFault.TheVariants.{DiskFault as ReadDiskFault, Unread as ReadUnread, Memory as ReadMemory}
use Rattle.qh_merge.specs.declared.fault.MergeFault.{MergeFault}
use Rattle.qh_merge.specs.declared.fault.MergeFault.TheVariants.{DiskFault, Unread, WholeJob, OtherFamily, Unfinished, Unequal, Memory}
use Rattle.qh_merge.specs.declared.merging.Merged.{Merged}
use Rattle.qh_merge.specs.declared.merging.Merged.TheVariants.{Lines, Overflow}
use Rattle.qh_merge.specs.Inputs.{Input, IsRead, IsUnread}
use Rattle.qh_merge.specs.Gathered.{IsGathered, State}
use Rattle.qh_merge.specs.Union.{IsFinished}
use Rattle.qh_merge.specs.Merging.{AreGood, IsWhole, RoseAt}

-- ---- one input is read
-- what the code keeps of an input
abbrev pub input_of : Taken → Input
input_of t = record { job = t.job; slots = t.table.items }

-- why an input is not read
abbrev pub ReadMayFail : ReadFault → Face → Face → Type 0
ReadMayFail ReadDiskFault old new = Rose old.faults new.faults
ReadMayFail ReadUnread old new = IsFound IsUnread new
ReadMayFail ReadMemory old new = ⊤

-- why the input of a place is not read
abbrev pub ReadMayFailAt : {D : Type 0} → (D → Face) → ReadFault → ℕ → List D → List D → Type 0
ReadMayFailAt face ReadDiskFault place old new = RoseAt face place old new
ReadMayFailAt face ReadUnread place old new = IsSomeAnd (slice_get new place) (λ d. IsFound IsUnread (face d))
ReadMayFailAt face ReadMemory place old new = ⊤

-- what a fault of the job, or of the slots, means here
abbrev pub of_job : JobFault → ReadFault
of_job job.DiskFault = ReadDiskFault
of_job job.Memory = ReadMemory
of_job _ = ReadUnread

abbrev pub of_slots : AttachFault → ReadFault
of_slots attach.DiskFault = ReadDiskFault
of_slots attach.Memory = ReadMemory
of_slots _ = ReadUnread

-- what a fault of an input's reading means for the merge
abbrev pub fault_at : ℕ → ReadFault → MergeFault
fault_at input ReadDiskFault = DiskFault input
fault_at input ReadUnread = Unread input
fault_at input ReadMemory = Memory

-- ---- it is compared with the family
-- it goes with the family under this prefix value
pub record Goes (j : Job) (x : Input) (w : ℕ) : Type 0 where
  pub prefix : x.job.prefix ≡ Some w
  pub family : IsSameButPrefix j x.job
  pub finished : IsFinished x

-- why the input of a place does not
abbrev pub Misses : Job → Input → ℕ → MergeFault → Type 0
Misses j x place (WholeJob i) = (i ≡ place) × IsWhole x
Misses j x place (OtherFamily i) = (i ≡ place) × IsSome x.job.prefix × ¬ IsSameButPrefix j x.job
Misses j x place (Unfinished i r) = (i ≡ place) × IsSome x.job.prefix × IsSameButPrefix j x.job × (r < ranges x.job) × (slot_at x.slots r ≡ None)
    × ((q : ℕ) → q < r → IsSome (slot_at x.slots q))
Misses j x place fault = ⊥

-- ---- a repeat is compared with the first input of its prefix value, which is read again
-- this is the first range for which two tables differ
pub record Differs (s t : Slots) (range : ℕ) (u v : Verdict) : Type 0 where
  pub one : slot_at s range ≡ Some u
  pub two : slot_at t range ≡ Some v
  pub unequal : u ≢ v
  pub least : (q : ℕ) → q < range → slot_at s q ≡ slot_at t q

abbrev pub IsDifference : ℕ → Slots → Slots → MergeFault → Type 0
IsDifference w s t (Unequal p r u v) = (p ≡ w) × Differs s t r u v
IsDifference w s t fault = ⊥

-- the disk of a place holds an input that goes with the family under this prefix value
pub record Rereads {D : Type 0} (face : D → Face) (disks : List D) (place : ℕ) (j : Job) (w : ℕ) (input : Input) : Type 0 where
  pub read : IsSomeAnd (slice_get disks place) (λ d. IsRead input (face d))
  pub goes : Goes j input w

-- and it says what x says
pub record Repeated {D : Type 0} (face : D → Face) (disks : List D) (place : ℕ) (j : Job) (w : ℕ) (x : Input) : Type 0 where
  pub input : Input
  pub rereads : Rereads face disks place j w input
  pub same : input.slots ≡ x.slots

-- the disk of a place holds another input
pub record Changed {D : Type 0} (face : D → Face) (disks : List D) (place : ℕ) (j : Job) (w : ℕ) : Type 0 where
  pub input : Input
  pub read : IsSomeAnd (slice_get disks place) (λ d. IsRead input (face d))
  pub other : ¬ Goes j input w

-- why an input that is read again does not say what x says
abbrev pub RereadMayFail : {D : Type 0} → (D → Face) → Job → ℕ → ℕ → Input → MergeFault → List D → List D → Type 0
RereadMayFail face j place w x (DiskFault i) old new = (i ≡ place) × RoseAt face place old new
RereadMayFail face j place w x (Unread i) old new = (i ≡ place) × (IsSomeAnd (slice_get new place) (λ d. IsFound IsUnread (face d)) ⊎ Changed face new place j w)
RereadMayFail face j place w x (Unequal p r u v) old new = (y : Input) × Rereads face new place j w y × IsDifference w y.slots x.slots (Unequal p r u v)
RereadMayFail face j place w x Memory old new = ⊤
RereadMayFail face j place w x fault old new = ⊥

-- ---- the inputs so far
-- the first n disks hold good inputs, and this is what is kept of them
pub record IsProgress {D : Type 0} (face : D → Face) (disks : List D) (n : ℕ) (s : State) : Type 0 where
  pub inputs : List Input
  pub good : AreGood face disks n inputs
  pub kept : IsGathered inputs s

-- ---- the answer of what is kept
-- the job is valid, and the sums are as many as its bitstrings, each within 126 bits
pub record IsSound (s : State) : Type 0 where
  pub valid : IsJob s.job
  pub even : length s.sums ≡ length s.job.bits
  pub within : All (IsWithin coefficient_bits) s.sums

-- the lines of the sums, or the path
abbrev pub IsAnswered : State → Merged → Type 0
IsAnswered s (Lines text) = (s.over ≡ None) × IsText s.job.circuit.qubits (total_weight s.job.circuit.gates) s.job.bits s.sums text
IsAnswered s (Overflow path) = s.over ≡ Some path
