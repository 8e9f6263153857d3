use Rattle.std.proofs.Common.{◌∙◌, ap, ◌^◌}
use Rattle.qh_ring.specs.declared.number.Omega.{Omega}
use Rattle.qh_ring.specs.Matrices.{number_in}
use Rattle.qh_kernel.specs.Rows.{row_sum2}
use Rattle.qh_blocks.specs.Blocks.{lane}
use Rattle.qh_blocks.specs.Widths.{two_rows, width_after}
use Rattle.qh_blocks.proofs.LaneLemmas.{chosen_applied}
use Rattle.qh_blocks.proofs.WidthLemmas.{low_width, high_width}
use Rattle.qh_blocks.proofs.pairs.new_lanes.Goals as goal

pub returns-clause-lanes : goal.returns-clause-lanes
returns-clause-lanes g c r l =
    c.blended.ensures.lanes r l
    ∙ chosen_applied (number_in (two_rows c.args.first c.args.second c.args.third c.args.fourth)) c.args.q r (λ s. lane g.V.Vector.lanes s c.args.x.now) _ _
    (c.pair_row-low.ensures.lanes r l ∙ ap (row_sum2 (number_in (two_rows c.args.first c.args.second c.args.third c.args.fourth) 0 0) (number_in (two_rows c.args.first c.args.second c.args.third c.args.fourth) 0 1) (lane g.V.Vector.lanes r c.args.x.now)) (c.partners-y.ensures.lanes r l))
    (c.pair_row-high.ensures.lanes r l ∙ ap (λ (t : Omega). row_sum2 (number_in (two_rows c.args.first c.args.second c.args.third c.args.fourth) 1 0) (number_in (two_rows c.args.first c.args.second c.args.third c.args.fourth) 1 1) t (lane g.V.Vector.lanes r c.args.x.now)) (c.partners-y.ensures.lanes r l))

pub returns-clause-block : goal.returns-clause-block
returns-clause-block g c =
    c.blended.ensures.block (width_after (two_rows c.args.first c.args.second c.args.third c.args.fourth) c.args.bits)
    (low_width g.V.Vector.lanes (2 ^ g.V.Vector.PLACES) c.args.bits (two_rows c.args.first c.args.second c.args.third c.args.fourth) c.pair_row-low.result c.pair_row-low.ensures.block)
    (high_width g.V.Vector.lanes (2 ^ g.V.Vector.PLACES) c.args.bits (two_rows c.args.first c.args.second c.args.third c.args.fourth) c.pair_row-high.result c.pair_row-high.ensures.block)
