use Rattle.std.proofs.Common.{◌≡◌, ◌+◌, refl, arith}
use Rattle.qh_blocks.proofs.FactorLemmas.{taken_none, taken_more, factor_same}
use Rattle.qh_blocks.proofs.factor.take_twos.Goals as goal

pub loop-count-init : goal.loop-count-init
loop-count-init g c = taken_none g.V.Vector.lanes g.V.Vector.PLACES c.args.bits c.args.most c.args.v.now c.requires.bounded

pub take_two-requires-clause-bounded : goal.take_two-requires-clause-bounded
take_two-requires-clause-bounded g c = c.loop-count.invariant.bounded

pub returns-then-not-take_two-clause-factor : goal.returns-then-not-take_two-clause-factor
returns-then-not-take_two-clause-factor g c =
    factor_same g.V.Vector.lanes g.V.Vector.PLACES (c.loop-count.count + c.loop-count.count) (c.loop-count.count + c.loop-count.count) c.args.v.now c.loop-count.v c.take_two.new.v refl (c.take_two.ensures.same c.if-not-take_two.true) c.loop-count.invariant.factor

pub loop-count-preserved : goal.loop-count-preserved
loop-count-preserved g c =
    taken_more g.V.Vector.lanes g.V.Vector.PLACES c.args.bits c.args.most c.args.v.now c.loop-count.v c.take_two.new.v c.loop-count.count c.loop-count-test.true c.loop-count.invariant (c.take_two.ensures.factor c.if-not-take_two.false) c.take_two.ensures.bounded

pub returns-clause-factor : goal.returns-clause-factor
returns-clause-factor g c =
    let few = c.loop-count.invariant.few in
    let end = c.loop-count-test.false in
    let all : c.args.most ≡ c.loop-count.count = omega (arith, few, end) in
    factor_same g.V.Vector.lanes g.V.Vector.PLACES (c.loop-count.count + c.loop-count.count) (c.args.most + c.args.most) c.args.v.now c.loop-count.v c.loop-count.v (omega (arith, all)) refl c.loop-count.invariant.factor

pub returns-clause-bounded : goal.returns-clause-bounded
returns-clause-bounded g c = c.loop-count.invariant.bounded
