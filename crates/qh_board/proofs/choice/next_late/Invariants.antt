use Rattle.std.proofs.Common.{◌≡◌, ◌≤◌, ◌-◌, length}
use Rattle.qh_limits.specs.Counts.{RoseBy}
use Rattle.qh_lease.specs.Lease.{count_out}
use Rattle.qh_board.specs.Claims.{AreNotDue}
use Rattle.qh_board.proofs.choice.next_late.Given as goal

-- the timer answered not due for each range below `from` that is out and may be granted again
abbrev pub invariant-loop-range : goal.invariant-loop-range
invariant-loop-range g l = (l.from ≤ length l.course.leases) × (g.T.Timer.due_count l.timer ≡ g.T.Timer.due_count l.fn.timer)
    × (g.T.Timer.granted_count l.timer ≡ g.T.Timer.granted_count l.fn.timer)
    × RoseBy (count_out l.course.leases l.from) (g.T.Timer.not_due_count l.fn.timer) (g.T.Timer.not_due_count l.timer)
    × AreNotDue g.T.Timer.may_say l.course.leases l.from

abbrev pub decreases-loop-range : goal.decreases-loop-range
decreases-loop-range g l = length l.course.leases - l.from
