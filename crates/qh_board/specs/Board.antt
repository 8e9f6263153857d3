-- What a board shows, and what it keeps.
use Rattle.std.specs.Prelude.{◌≡◌, ℕ, false, if◌then◌else◌, List, [], length, map, is_some, Option, Some, None}
use Rattle.std.specs.Option.{ForSome}
use Rattle.std.specs.Borrow.{MutBor}
use Rattle.qh_plan.specs.declared.verdict.Verdict.{Verdict}
use Rattle.qh_plan.specs.Jobs.{Job, ranges}
use Rattle.qh_plan.specs.Values.{range_value}
use Rattle.qh_disk.specs.Disk.{Face, Reads}
use Rattle.qh_disk.specs.Moments.{Lasts}
use Rattle.qh_slots.specs.Stands.{Slots, slot_at, Made}
use Rattle.qh_slots.specs.Moments.{GoesOn}
use Rattle.qh_parts.specs.Sparing.{Spares}
use Rattle.qh_journal.specs.Calls.{JournalView, Same}
use Rattle.qh_lease.specs.declared.lease.Lease.{Lease}
use Rattle.qh_lease.specs.declared.lease.Lease.TheVariants.{Fresh, Acked}
use Rattle.qh_lease.specs.Lease.{lease_at, is_acked}
use Rattle.qh_lease.specs.Tally.{Count}
use Rattle.qh_core.specs.Noted.{counted}
use Rattle.qh_core.specs.Replay.{CourseView, is_begun}
use Rattle.qh_slots.specs.Running.{Running, IsTotalOf, CanAdd}

-- A run's job and its journal; the timer that is lent to the board; the leases, with all that was done; the total of the journal's
-- slots; and what its callers were granted, gave back and were acknowledged.
pub record BoardView (D T : Type 0) : Type 0 where
  pub job : Job
  pub journal : JournalView D
  pub timer : MutBor T
  pub course : CourseView
  pub total : Running
  pub tally : Count

-- the slot that a range had when the run began
abbrev pub begun : {D T : Type 0} → BoardView D T → ℕ → Option Verdict
begun b range = if is_begun b.course range then slot_at b.journal.table range else None

-- the run began with these slots
pub record BeganWith {D T : Type 0} (b : BoardView D T) (s0 : Slots) : Type 0 where
  pub each : (range : ℕ) → slot_at s0 range ≡ begun b range

-- the lease with which a run finds the range of a slot, and all leases and the empty history with which it begins
abbrev pub lease_for : Option Verdict → Lease
lease_for slot = if is_some slot then Acked else Fresh

abbrev pub started : Slots → CourseView
started table = record { leases = map lease_for table; history = []; fault = None }

-- What a board keeps. The acknowledged ranges are those with a slot, and each slot that the run did not begin with holds its
-- range's value. The total is that of the slots, and the tally counts the history. The board is halted exactly where its
-- journal has failed, and it keeps the disk's count of faults; also then what is read goes on from the slots at the start.
pub record IsBoard {D T : Type 0} (face : D → Face) (b : BoardView D T) : Type 0 where
  pub one_job : b.journal.job ≡ b.job
  pub ranges : length b.course.leases ≡ ranges b.job
  pub acked : (range : ℕ) → is_acked (lease_at b.course.leases range) ≡ is_some (slot_at b.journal.table range)
  pub values : (range : ℕ) (v : Verdict) → slot_at b.journal.table range ≡ Some v → is_begun b.course range ≡ false → v ≡ range_value b.job range
  pub total : IsTotalOf b.job b.journal.table b.total
  pub tally : b.tally.totals ≡ counted b.course.history
  pub halt : b.journal.failed ≡ is_some b.course.fault
  pub faults : (n : ℕ) → b.course.fault ≡ Some n → ForSome b.journal.disk (λ d. n ≡ (face d).faults)
  pub reads : (s0 : Slots) → BeganWith b s0 → ForSome b.journal.disk (λ d. Reads (face d) (GoesOn b.job s0))

-- the slot of a range is open, and the total is that of slots to which its verdict may be added
pub record IsAddable (j : Job) (table : Slots) (range : ℕ) (t : Running) : Type 0 where
  pub verdict : Verdict
  pub held : slot_at table range ≡ Some verdict
  pub can : CanAdd j t range verdict

-- What a call does to the disk: it is the same one, reached through the same loans; what is stable stays stable; and each image was
-- made by runs of the job, where it was before, and goes on from the slots from which those before went on.
pub record Serves {D : Type 0} (face : D → Face) (loans : D → List ℕ) (j : Job) (d e : D) : Type 0 where
  pub same : Same face loans d e
  pub spares : Spares j (face d) (face e)
  pub made : Lasts (Made j) (face d) (face e)
  pub goes_on : (s0 : Slots) → Lasts (GoesOn j s0) (face d) (face e)
