-- What holds of every course.
use Rattle.std.specs.Prelude.{◌≡◌, ℕ, ◌+◌, ◌-◌, ◌*◌, ◌<◌, ◌≤◌, if◌then◌else◌, List, length, sum_by, is_some, All}
use Rattle.qh_limits.specs.Limits.{max_grants, max_ranges}
use Rattle.qh_lease.specs.declared.lease.Lease.{Lease}
use Rattle.qh_lease.specs.declared.lease.Lease.TheVariants.{Fresh, Out, Returned, Acked}
use Rattle.qh_lease.specs.Lease.{lease_at, grants_of}
use Rattle.qh_core.specs.Noted.{IsEntryOf}
use Rattle.qh_core.specs.Replay.{CourseView, is_open, IsReplay}

-- at most how many entries a range can still have: its grants, each with a give-back, and the acknowledgement
abbrev pub entries_left : Lease → ℕ
entries_left Fresh = 2 * max_grants + 1
entries_left (Out attempt) = 2 * (max_grants - attempt) + 2
entries_left (Returned attempt) = 2 * (max_grants - attempt) + 1
entries_left Acked = 0

-- how many ranges are not acknowledged
abbrev pub open_ranges : List Lease → ℕ
open_ranges leases = sum_by (λ lease. if is_open lease then 1 else 0) leases

-- its history replays, its attempts are numbers of grants, and what it can still note is bounded
pub record IsCourse (c : CourseView) : Type 0 where
  pub some : 0 < length c.leases
  pub few : length c.leases ≤ max_ranges
  pub replay : IsReplay c
  pub grants : (range : ℕ) → grants_of (lease_at c.leases range) ≤ max_grants
  pub entries : All (IsEntryOf (length c.leases)) c.history
  pub room : length c.history + sum_by entries_left c.leases + (if is_some c.fault then 0 else 1) ≤ (2 * max_grants + 1) * length c.leases + 1

-- a course with the number of its ranges, that of its open ones, and room for so many entries a range
pub record IsHeld (c : CourseView) (ranges remaining per_range capacity : ℕ) : Type 0 where
  pub course : IsCourse c
  pub ranges_is : ranges ≡ length c.leases
  pub remaining_is : remaining ≡ open_ranges c.leases
  pub reserved : length c.leases * per_range ≤ capacity
