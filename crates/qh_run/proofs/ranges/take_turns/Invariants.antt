use Rattle.std.proofs.Common.{◌≡◌, ◌≤◌, ◌+◌, None}
use Rattle.qh_limits.specs.Counts.{RoseBy}
use Rattle.qh_run.specs.Carrying.{Carries, count_fresh}
use Rattle.qh_run.proofs.ranges.take_turns.Given as goal

abbrev pub invariant-loop-turn : goal.invariant-loop-turn
invariant-loop-turn g l = record {
  carries : Carries g.D.Disk.face g.D.Disk.loans l.fn.board l.board;
  worker : l.worker ≡ l.fn.worker;
  running : l.board.course.fault ≡ None;
  told : RoseBy l._turn (g.T.Timer.granted_count l.fn.board.timer.now) (g.T.Timer.granted_count l.board.timer.now);
  fresh : count_fresh l.fn.board ≤ l._turn + count_fresh l.board;
}
