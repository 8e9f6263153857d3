use Rattle.std.proofs.Common.{◌*◌}
use Rattle.qh_lease.specs.Marks.{NoneMarked}
use Rattle.qh_lease.proofs.marks.Marks.lowest_from.Given as goal

-- nothing is marked from the number up to the block
abbrev pub invariant-loop-block : goal.invariant-loop-block
invariant-loop-block l = NoneMarked l.self-inside.marks.items l.fn.from (l.block * 128)
