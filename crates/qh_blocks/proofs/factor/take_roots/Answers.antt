use Rattle.std.proofs.Common.{◌+◌, ◌*◌, arith}
use Rattle.qh_blocks.proofs.FactorLemmas.{factor_more, factor_same}
use Rattle.qh_blocks.proofs.factor.take_roots.Goals as goal

pub returns-then-take_root-clause-factor : goal.returns-then-take_root-clause-factor
returns-then-take_root-clause-factor g c =
    factor_more g.V.Vector.lanes g.V.Vector.PLACES (c.take_twos-count.result + c.take_twos-count.result) 1 (c.take_twos-count.result * 2 + 1) c.args.v.now c.take_twos-count.new.v c.take_root.new.v (omega arith) c.take_twos-count.ensures.factor (c.take_root.ensures.factor c.if-take_root.true)

pub returns-clause-factor : goal.returns-clause-factor
returns-clause-factor g c =
    factor_same g.V.Vector.lanes g.V.Vector.PLACES (c.take_twos-count.result + c.take_twos-count.result) (c.take_twos-count.result * 2) c.args.v.now c.take_twos-count.new.v c.take_root.new.v (omega arith) (c.take_root.ensures.same c.if-take_root.false) c.take_twos-count.ensures.factor
