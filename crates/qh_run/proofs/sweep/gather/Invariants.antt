use Rattle.std.proofs.Common.{◌≡◌, ◌≤◌, ◌+◌, length}
use Rattle.qh_run.specs.Sweeping.{IsGathered}
use Rattle.qh_run.proofs.sweep.gather.Given as goal

abbrev pub invariant-loop-place : goal.invariant-loop-place
invariant-loop-place g l = record {
  worker : l.worker ≡ l.fn.worker;
  gathered : IsGathered l.board.job l.board.course.leases l.fn.from l.next l.group;
  filled : length l.group ≡ l._place;
  forward : l.fn.from + l._place ≤ l.next;
}
