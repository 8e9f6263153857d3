-- How a run ends, and why.
use Rattle.std.specs.Prelude.{◌≡◌, ◌⊎◌, false, true, All, length, IfSome, IsSome, IsSomeAnd, Option, Some, None}
use Rattle.qh_limits.specs.Limits.{coefficient_bits}
use Rattle.qh_limits.specs.Counts.{Rose}
use Rattle.qh_ring.specs.Numbers.{IsWithin}
use Rattle.qh_plan.specs.declared.verdict.Verdict.{Verdict}
use Rattle.qh_plan.specs.declared.verdict.Verdict.TheVariants.{Sum, Over as OverPath}
use Rattle.qh_plan.specs.Jobs.{Job}
use Rattle.qh_disk.specs.Disk.{Face}
use Rattle.qh_slots.specs.declared.fault.AttachFault.{AttachFault}
use Rattle.qh_slots.specs.Record.{Keeping}
use Rattle.qh_slots.specs.Moments.{IsUnwritten}
use Rattle.qh_slots.specs.Refusing.{RefusesJournal, RefusesOld, Accepts}
use Rattle.qh_migrate.specs.Faults.{attach_of}
use Rattle.qh_run.specs.declared.ended.RunEnd.{RunEnd}
use Rattle.qh_run.specs.declared.ended.RunEnd.TheVariants.{Sums, Over, Disk, OldDisk, Refused, OldRefused, Memory}

-- what a whole run answers
abbrev pub answer_of : RunEnd → Option Verdict
answer_of (Sums sums) = Some (Sum sums.items)
answer_of (Over path) = Some (OverPath path)
answer_of Disk = None
answer_of OldDisk = None
answer_of (Refused why) = None
answer_of (OldRefused why) = None
answer_of Memory = None

-- an answer has a sum for each asked bitstring, within 126 bits
abbrev pub IsBounded : Job → Verdict → Type 0
IsBounded j (Sum sums) = (length sums ≡ length j.bits) × All (IsWithin coefficient_bits) sums
IsBounded j (OverPath path) = Unit {0}

-- no old journal that is to be taken over tells that it is refused
abbrev pub AcceptsOld : Keeping → Job → Face → Face → Type 0
AcceptsOld k j old disk = (r : AttachFault) → ¬ RefusesOld (λ known P. IsSomeAnd known P) k j disk old r

-- no call of the disk failed, as far as its count tells
abbrev pub IsFaultless : Face → Face → Type 0
IsFaultless old new = ¬ Rose old.faults new.faults

-- Why a run is not whole: the disk failed, or the old one, which is to be taken over; or the journal is refused, or the old one. Where the journal was not to be
-- emptied first, a refusal leaves it unwritten. Want of memory has no cause.
abbrev pub MayEnd : Keeping → Job → Face → Face → Face → Face → RunEnd → Type 0
MayEnd k j old old_after disk after (Sums sums) = Unit {0}
MayEnd k j old old_after disk after (Over path) = Unit {0}
MayEnd k j old old_after disk after Disk = Rose disk.faults after.faults
MayEnd k j old old_after disk after OldDisk = (k.taking ≡ true) × Rose old.faults old_after.faults
MayEnd k j old old_after disk after (Refused why) = RefusesJournal (λ known P. IfSome known P) k j disk why × (k.fresh ≡ false → IsUnwritten disk after)
MayEnd k j old old_after disk after (OldRefused why) =
    RefusesOld (λ known P. IfSome known P) k j disk old (attach_of why) × (k.fresh ≡ false → IsUnwritten disk after)
MayEnd k j old old_after disk after Memory = Unit {0}

-- the journal, or the old one, was refused for this, or memory lacked
abbrev pub EndsRefused : AttachFault → RunEnd → Type 0
EndsRefused r end = (end ≡ Refused r) ⊎ (end ≡ Memory)

abbrev pub EndsOldRefused : AttachFault → RunEnd → Type 0
EndsOldRefused r (Sums sums) = ⊥
EndsOldRefused r (Over path) = ⊥
EndsOldRefused r Disk = ⊥
EndsOldRefused r OldDisk = ⊥
EndsOldRefused r (Refused why) = ⊥
EndsOldRefused r (OldRefused why) = attach_of why ≡ r
EndsOldRefused r Memory = Unit {0}

-- What a run answers where no disk failed and memory does not lack: a journal that tells that it is refused is refused, and one that tells that it is accepted is
-- run to its answer.
pub record IsComplete (k : Keeping) (j : Job) (old disk : Face) (end : RunEnd) : Type 0 where
  pub refused : (r : AttachFault) → RefusesJournal (λ known P. IsSomeAnd known P) k j disk r → EndsRefused r end
  pub old_refused : (r : AttachFault) → RefusesOld (λ known P. IsSomeAnd known P) k j disk old r → EndsOldRefused r end
  pub accepted : Accepts k j disk old → IsSome (answer_of end) ⊎ (end ≡ Memory)
