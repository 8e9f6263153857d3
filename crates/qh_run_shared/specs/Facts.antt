-- What is named of a run, and what its board keeps under a lock.
use Rattle.std.specs.Prelude.{◌≡◌, ℕ, Bool, List, [], length, Option, Some, None, is_some}
use Rattle.std.specs.Option.{ForSome, IsSomeAnd}
use Rattle.qh_limits.specs.Counts.{Rose}
use Rattle.qh_plan.specs.declared.verdict.Verdict.{Verdict}
use Rattle.qh_plan.specs.Jobs.{Job, ranges}
use Rattle.qh_disk.specs.Disk.{Face}
use Rattle.qh_disk.specs.Moments.{Lasts}
use Rattle.qh_slots.specs.Stands.{Slots, Made}
use Rattle.qh_slots.specs.Moments.{GoesOn}
use Rattle.qh_parts.specs.Sparing.{Spares}
use Rattle.qh_journal.specs.Calls.{Went}
use Rattle.qh_board.specs.Board.{BoardView, begun, Serves}
use Rattle.qh_board.specs.Deliveries.{DiskRose}

-- What is named of a run: its job; the slot with which each range began; whether its journal is kept on a disk, and of that disk the face with which the board went
-- under the lock and the loans through which it is reached; and how many shares are out.
pub record RunName : Type 1 where
  pub job : Job
  pub begun : ℕ → Option Verdict
  pub kept : Bool
  pub start : Face
  pub lent : List ℕ
  pub out : ℕ

-- What was done to a disk since it had the face `start`: it is reached through the same loans; what is stable stays stable; and each image was made by runs of
-- the job, where it was then, and goes on from the slots from which those of then went on.
pub record Served {D : Type 0} (face : D → Face) (loans : D → List ℕ) (j : Job) (start : Face) (lent : List ℕ) (d : D) : Type 0 where
  pub same : loans d ≡ lent
  pub spares : Spares j start (face d)
  pub made : Lasts (Made j) start (face d)
  pub goes_on : (s0 : Slots) → Lasts (GoesOn j s0) start (face d)

-- What a board keeps under its lock: it is of the named job, its ranges began with the named slots, it has the named number of shares out, and a disk exactly where one
-- is named. Its disk was served since it went under the lock. Where it is halted, the disk's count of faults rose since then.
pub record UnderLock {D T : Type 0} (face : D → Face) (loans : D → List ℕ) (run : RunName) (b : BoardView D T) : Type 0 where
  pub job : b.job ≡ run.job
  pub count : length b.course.leases ≡ ranges run.job
  pub begun : (range : ℕ) → begun b range ≡ run.begun range
  pub out : b.tally.out ≡ run.out
  pub kept : is_some b.journal.disk ≡ run.kept
  pub disk : ForSome b.journal.disk (Served face loans run.job run.start run.lent)
  pub halted : (n : ℕ) → b.course.fault ≡ Some n → IsSomeAnd b.journal.disk (λ d. Rose run.start.faults (face d).faults)

-- ---- the name of a run whose board goes under its lock now
abbrev pub no_face : Face
no_face = record { content = None; clock = 0; images_at = λ _ _. ⊥; faults = 0 }

abbrev pub face_of : {D : Type 0} → (D → Face) → Option D → Face
face_of face None = no_face
face_of face (Some d) = face d

abbrev pub loans_of : {D : Type 0} → (D → List ℕ) → Option D → List ℕ
loans_of loans None = []
loans_of loans (Some d) = loans d

abbrev pub name_of : {D T : Type 0} → (D → Face) → (D → List ℕ) → BoardView D T → RunName
name_of face loans b = record {
  job = b.job;
  begun = begun b;
  kept = is_some b.journal.disk;
  start = face_of face b.journal.disk;
  lent = loans_of loans b.journal.disk;
  out = b.tally.out;
}

-- What workers did to a board that they shared: it has the same job, its ranges began with the same slots, and its disk was served. Where it is
-- halted, the disk's count of faults rose.
pub record WasShared {D T : Type 0} (face : D → Face) (loans : D → List ℕ) (old new : BoardView D T) : Type 0 where
  pub job : new.job ≡ old.job
  pub count : length new.course.leases ≡ length old.course.leases
  pub begun : (range : ℕ) → begun new range ≡ begun old range
  pub disk : Went (Serves face loans old.job) old.journal.disk new.journal.disk
  pub halted : (n : ℕ) → new.course.fault ≡ Some n → DiskRose face old.journal.disk new.journal.disk
