use Rattle.std.proofs.Common.{◌≡◌}
use Rattle.qh_kernel.proofs.PlaceLemmas.{below_four}
use Rattle.qh_blocks.specs.Blocks.{lane, block_of}
use Rattle.qh_blocks.specs.Numbers.{row_of_four}
use Rattle.qh_blocks.proofs.quads.new_quad.Goals as goal

pub returns-clause-lanes : goal.returns-clause-lanes
returns-clause-lanes g c j r lj lr =
    below_four (λ j. lane g.V.Vector.lanes r (block_of (c.quad_row-first.result, c.quad_row-second.result, c.quad_row-third.result, c.quad_row-fourth.result) j)
    ≡ row_of_four c.args.m.now.rows j (lane g.V.Vector.lanes r c.args.quad.now.0) (lane g.V.Vector.lanes r c.args.quad.now.1) (lane g.V.Vector.lanes r c.args.quad.now.2) (lane g.V.Vector.lanes r c.args.quad.now.3))
    (c.quad_row-first.ensures.lanes r lr) (c.quad_row-second.ensures.lanes r lr) (c.quad_row-third.ensures.lanes r lr) (c.quad_row-fourth.ensures.lanes r lr) j lj
