use Rattle.std.proofs.Common.{◌≡◌, ◌+ℤ◌, ap, ◌∙◌, arith}
use Rattle.qh_ring.specs.declared.number.Omega.{Omega}
use Rattle.qh_kernel.specs.Lanes.{at_lane}
use Rattle.qh_blocks.specs.Blocks.{lane}
use Rattle.qh_blocks.proofs.FactorLemmas.{root_lane}
use Rattle.qh_blocks.proofs.factor.grown.Goals as goal

pub returns-clause-lanes : goal.returns-clause-lanes
returns-clause-lanes g c r l =
    let few = c.requires.roots in
    let some = c.if-roots-eq0.false in
    let one : c.args.roots ≡ 1 = omega (arith, few, some) in
    root_lane c.args.roots _ (lane g.V.Vector.lanes r c.args.x.now) one
    (c.plus.ensures.lanes r l ∙ ap (λ (z : Omega). at_lane (g.V.Vector.lanes c.args.x.now.b) r +ℤ z.d) (c.negated-n.ensures.lanes r l))
    (c.plus-2.ensures.lanes r l)
    (c.plus-3.ensures.lanes r l)
    (c.plus-4.ensures.lanes r l ∙ ap (λ (z : Omega). at_lane (g.V.Vector.lanes c.args.x.now.c) r +ℤ z.a) (c.negated-n.ensures.lanes r l))
