use Rattle.std.proofs.Common.{◌≡◌, ℕ, ◌<◌, ◌≤◌, false}
use Rattle.qh_lease.specs.Lease.{lease_at}
use Rattle.qh_core.specs.Replay.{is_open}
use Rattle.qh_core.proofs.course.Course.next_open.Given as goal

-- every range from the first one up to here is acknowledged
abbrev pub invariant-loop-range : goal.invariant-loop-range
invariant-loop-range l = (lower : ℕ) → l.fn.from ≤ lower → lower < l.range → is_open (lease_at l.self.leases lower) ≡ false
