-- What a part of a run does to its board, and what it leaves.
use Rattle.std.specs.Prelude.{◌≡◌, ℕ, ◌+◌, ◌≤◌, Bool, true, false, List, length, Option, Some}
use Rattle.std.specs.List.{count_by}
use Rattle.std.specs.Option.{ForSome}
use Rattle.qh_limits.specs.Counts.{Rose}
use Rattle.qh_plan.specs.declared.verdict.Verdict.{Verdict}
use Rattle.qh_plan.specs.Jobs.{Job, ranges}
use Rattle.qh_plan.specs.Verdicts.{total}
use Rattle.qh_disk.specs.Disk.{Face, Reads}
use Rattle.qh_disk.specs.Moments.{EachImage}
use Rattle.qh_slots.specs.Stands.{Slots, slot_at, Stands, Holds}
use Rattle.qh_slots.specs.Record.{Extends, IsFull}
use Rattle.qh_journal.specs.Calls.{Went}
use Rattle.qh_lease.specs.Lease.{is_fresh, NonePasses}
use Rattle.qh_core.specs.Replay.{is_open}
use Rattle.qh_board.specs.Board.{BoardView, begun, Serves}
use Rattle.qh_board.specs.Claims.{SameTimer}
use Rattle.qh_board.specs.Deliveries.{DiskRose}
use Rattle.qh_run.specs.declared.ended.RunEnd.{RunEnd}
use Rattle.qh_run.specs.declared.ended.RunEnd.TheVariants.{Sums, Over, Disk as EndDisk, OldDisk, Refused, OldRefused, Memory as EndMemory}
use Rattle.qh_run.specs.declared.stop.Stop.{Stop}
use Rattle.qh_run.specs.declared.stop.Stop.TheVariants.{Disk, Memory}

-- The job stays, and so do the slots with which the run began; the disk is served; the same timer is lent; where every range was acknowledged, the journal and
-- the leases stay as they were.
pub record Carries {D T : Type 0} (face : D → Face) (loans : D → List ℕ) (old new : BoardView D T) : Type 0 where
  pub job : new.job ≡ old.job
  pub count : length new.course.leases ≡ length old.course.leases
  pub begun : (range : ℕ) → begun new range ≡ begun old range
  pub disk : Went (Serves face loans old.job) old.journal.disk new.journal.disk
  pub timer : SameTimer old.timer new.timer
  pub still : NonePasses is_open 0 old.course.leases → (new.journal ≡ old.journal) × (new.course.leases ≡ old.course.leases)

-- how many ranges were never granted
abbrev pub count_fresh : {D T : Type 0} → BoardView D T → ℕ
count_fresh b = count_by is_fresh b.course.leases

-- One claim with its work: the timer heard of a grant, and at most one range less was never granted; or none is left that never was.
abbrev pub Turned : {D T : Type 0} → (T → ℕ) → BoardView D T → BoardView D T → Bool → Type 0
Turned granted_count old new true = Rose (granted_count old.timer.now) (granted_count new.timer.now) × (count_fresh old ≤ count_fresh new + 1)
Turned granted_count old new false = (granted_count new.timer.now ≡ granted_count old.timer.now) × (count_fresh old ≡ 0)

-- why a part of a run stops; want of memory has no cause
abbrev pub MayStop : {D T : Type 0} → (D → Face) → BoardView D T → BoardView D T → Stop → Type 0
MayStop face old new Disk = DiskRose face old.journal.disk new.journal.disk
MayStop face old new Memory = Unit {0}

-- why a run over a journal ends that was begun
abbrev pub MayLeave : {D : Type 0} → (D → Face) → Option D → Option D → RunEnd → Type 0
MayLeave face old new (Sums sums) = Unit {0}
MayLeave face old new (Over path) = Unit {0}
MayLeave face old new EndDisk = DiskRose face old new
MayLeave face old new OldDisk = ⊥
MayLeave face old new (Refused why) = ⊥
MayLeave face old new (OldRefused why) = ⊥
MayLeave face old new EndMemory = Unit {0}

-- A run over a journal that began with the slots s0 is whole, with this answer: the slots with which it ends go on from those, none is missing, and the answer
-- is their total. On a disk they are stable, and it reads as them.
pub record Completes {D : Type 0} (face : D → Face) (j : Job) (s0 : Slots) (disk : Option D) (answer : Verdict) : Type 0 where
  pub slots : Slots
  pub extends : Extends j s0 slots
  pub full : IsFull j slots
  pub total_is : total j (slot_at slots) ≡ answer
  pub stable : ForSome disk (λ d. (r : ℕ) (v : Verdict) → slot_at slots r ≡ Some v → EachImage (face d) (Holds j r v))
  pub reads : ForSome disk (λ d. Reads (face d) (Stands j slots))
