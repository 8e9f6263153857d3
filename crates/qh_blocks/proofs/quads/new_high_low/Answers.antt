use Rattle.std.proofs.Common.{◌∙◌}
use Rattle.std.proofs.Math.Path.{ap₂}
use Rattle.qh_ring.specs.declared.number.Omega.{Omega}
use Rattle.qh_kernel.specs.Lanes.{chosen}
use Rattle.qh_blocks.specs.Blocks.{lane}
use Rattle.qh_blocks.specs.Numbers.{row_of_four}
use Rattle.qh_blocks.proofs.quads.new_high_low.Goals as goal

pub returns-clause-low : goal.returns-clause-low
returns-clause-low g c r l =
    c.blended-low.ensures.lanes r l
    ∙ ap₂ (chosen c.args.q r)
    (c.quad_row-first.ensures.lanes r l ∙ ap₂ (λ (s : Omega) (t : Omega). row_of_four c.args.m.now.rows 0 (lane g.V.Vector.lanes r c.args.x.now) s (lane g.V.Vector.lanes r c.args.y.now) t) (c.partners-x_partner.ensures.lanes r l) (c.partners-y_partner.ensures.lanes r l))
    (c.quad_row-second.ensures.lanes r l ∙ ap₂ (λ (s : Omega) (t : Omega). row_of_four c.args.m.now.rows 1 s (lane g.V.Vector.lanes r c.args.x.now) t (lane g.V.Vector.lanes r c.args.y.now)) (c.partners-x_partner.ensures.lanes r l) (c.partners-y_partner.ensures.lanes r l))

pub returns-clause-high : goal.returns-clause-high
returns-clause-high g c r l =
    c.blended-high.ensures.lanes r l
    ∙ ap₂ (chosen c.args.q r)
    (c.quad_row-third.ensures.lanes r l ∙ ap₂ (λ (s : Omega) (t : Omega). row_of_four c.args.m.now.rows 2 (lane g.V.Vector.lanes r c.args.x.now) s (lane g.V.Vector.lanes r c.args.y.now) t) (c.partners-x_partner.ensures.lanes r l) (c.partners-y_partner.ensures.lanes r l))
    (c.quad_row-fourth.ensures.lanes r l ∙ ap₂ (λ (s : Omega) (t : Omega). row_of_four c.args.m.now.rows 3 s (lane g.V.Vector.lanes r c.args.x.now) t (lane g.V.Vector.lanes r c.args.y.now)) (c.partners-x_partner.ensures.lanes r l) (c.partners-y_partner.ensures.lanes r l))

pub returns-clause-low_block : goal.returns-clause-low_block
returns-clause-low_block g c = c.blended-low.ensures.block c.args.bits c.quad_row-first.ensures.block c.quad_row-second.ensures.block

pub returns-clause-high_block : goal.returns-clause-high_block
returns-clause-high_block g c = c.blended-high.ensures.block c.args.bits c.quad_row-third.ensures.block c.quad_row-fourth.ensures.block
