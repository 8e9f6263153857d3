-- What the calls of a journal promise.
use Rattle.std.specs.Prelude.{◌≡◌, ◌≤◌, length, ℕ, Bool, false, List, [], ⊤, Option, Some, None}
use Rattle.std.specs.Option.{IsSomeAnd, ForSome}
use Rattle.qh_limits.specs.Limits.{max_journal_bytes}
use Rattle.qh_limits.specs.Counts.{Rose}
use Rattle.qh_plan.specs.declared.verdict.Verdict.{Verdict}
use Rattle.qh_plan.specs.Jobs.{Job, IsJob, ranges}
use Rattle.qh_disk.specs.Disk.{Face, IsSafe, Reads}
use Rattle.qh_disk.specs.Looks.{Looks}
use Rattle.qh_disk.specs.Moments.{EachImage, Runs, Lasts}
use Rattle.qh_slots.specs.Layout.{head, place, body_size}
use Rattle.qh_slots.specs.Stands.{Slots, slot_at, nones, AllFit, Stands, Made, Holds}
use Rattle.qh_slots.specs.Attaching.{first_refusal, slots_of}
use Rattle.qh_slots.specs.declared.fault.AttachFault.{AttachFault}
use Rattle.qh_slots.specs.declared.fault.AttachFault.TheVariants.{DiskFault, Memory}
use Rattle.qh_parts.specs.Sparing.{Spares}
use Rattle.qh_journal.specs.declared.fault.CreateFault.{CreateFault}
use Rattle.qh_journal.specs.declared.fault.CreateFault.TheVariants.{DiskFault as CreateDiskFault, Memory as CreateMemory}

-- ---- the type
-- What a journal shows: its disk, where it is kept on one; its job; its table of slots; whether it has failed.
pub record JournalView (D : Type 0) : Type 0 where
  pub disk : Option D
  pub job : Job
  pub table : Slots
  pub failed : Bool

-- What a journal keeps: a verdict in its table fits and is stable on the disk, also where it has failed. Where it has not, the disk
-- is safe and reads as the table says.
pub record IsJournal {D : Type 0} (face : D → Face) (k : JournalView D) : Type 0 where
  pub count : length k.table ≡ ranges k.job
  pub fits : AllFit k.job k.table
  pub stable : ForSome k.disk (λ d. (r : ℕ) (v : Verdict) → slot_at k.table r ≡ Some v → EachImage (face d) (Holds k.job r v))
  pub safe : k.failed ≡ false → ForSome k.disk (λ d. IsSafe (face d))
  pub reads : k.failed ≡ false → ForSome k.disk (λ d. Reads (face d) (Stands k.job k.table))
  pub unkept : k.disk ≡ None → k.failed ≡ false

-- what the code keeps beside it: a valid job, room for a slot's body, where the slots begin, and that the file is short
pub record IsRoom (j : Job) (room start : ℕ) : Type 0 where
  pub valid : IsJob j
  pub body : room ≡ body_size j
  pub begins : start ≡ length (head j)
  pub short : place (head j) j (ranges j) ≤ max_journal_bytes

-- ---- the disk, some calls later
-- it is there after exactly where it was before, and then P is of the two
abbrev pub Went : {D : Type 0} → (D → D → Type 0) → Option D → Option D → Type 0
Went P None new = new ≡ None
Went P (Some d) new = IsSomeAnd new (λ e. P d e)

-- it is the same one, reached through the same loans
pub record Same {D : Type 0} (face : D → Face) (loans : D → List ℕ) (d e : D) : Type 0 where
  pub same : loans e ≡ loans d
  pub runs : Runs (face d) (face e)

-- ---- attach
-- what it does to a disk: it only looks
pub record Attaches {D : Type 0} (face : D → Face) (loans : D → List ℕ) (d e : D) : Type 0 where
  pub same : loans e ≡ loans d
  pub looks : Looks (face d) (face e)

-- the disk is safe, and this refusal is the first that applies to what it reads as
pub record IsRefused (j : Job) (fault : AttachFault) (d : Face) : Type 0 where
  pub safe : IsSafe d
  pub first : Reads d (λ f. first_refusal j f ≡ Some fault)

-- why it stops
abbrev pub AttachMayFail : Job → AttachFault → Face → Face → Type 0
AttachMayFail j DiskFault old new = Rose old.faults new.faults
AttachMayFail j Memory old new = ⊤
AttachMayFail j fault old new = IsRefused j fault new

-- ---- create
-- why it stops; want of memory is met before the first call of the disk
abbrev pub CreateMayFail : {D : Type 0} → (D → Face) → CreateFault → D → D → Type 0
CreateMayFail face CreateDiskFault old new = Rose (face old).faults (face new).faults
CreateMayFail face CreateMemory old new = new ≡ old

-- What it does to a disk: no slot is read as open after it, and where the empty file was the only image, no stable slot is lost, and
-- what it leaves at each moment was made by runs of the job.
pub record IsCreated {D : Type 0} (face : D → Face) (loans : D → List ℕ) (j : Job) (d e : D) : Type 0 where
  pub same : loans e ≡ loans d
  pub runs : Runs (face d) (face e)
  pub reads : Reads (face e) (λ f. slots_of j f ≡ nones j)
  pub spares : EachImage (face d) (λ f. f ≡ []) → Spares j (face d) (face e)
  pub made : EachImage (face d) (λ f. f ≡ []) → Lasts (Made j) (face d) (face e)
