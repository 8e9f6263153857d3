use Rattle.std.proofs.Common.{max, ◌*◌}
use Rattle.qh_lease.specs.Marks.{NoneMarked}
use Rattle.qh_lease.proofs.marks.lowest_in.Given as goal

abbrev pub invariant-loop-place : goal.invariant-loop-place
invariant-loop-place l = NoneMarked l.marks (max l.fn.from (l.fn.block * 128)) l.place
