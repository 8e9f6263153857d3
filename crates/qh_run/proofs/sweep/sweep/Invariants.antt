use Rattle.std.proofs.Common.{◌≡◌, ◌<◌, ◌-◌, ℕ, false, None}
use Rattle.qh_plan.specs.Jobs.{ranges}
use Rattle.qh_lease.specs.Lease.{lease_at}
use Rattle.qh_core.specs.Replay.{is_open}
use Rattle.qh_run.specs.Carrying.{Carries}
use Rattle.qh_run.proofs.sweep.sweep.Given as goal

abbrev pub invariant-loop-from : goal.invariant-loop-from
invariant-loop-from g l = record {
  carries : Carries g.D.Disk.face g.D.Disk.loans l.fn.board l.board;
  worker : l.worker ≡ l.fn.worker;
  timer : l.board.timer ≡ l.fn.board.timer;
  running : l.board.course.fault ≡ None;
  swept : (r : ℕ) → r < l.from → is_open (lease_at l.board.course.leases r) ≡ false;
}

abbrev pub decreases-loop-from : goal.decreases-loop-from
decreases-loop-from g l = ranges l.fn.worker - l.from
