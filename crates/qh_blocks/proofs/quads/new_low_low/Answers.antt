use Rattle.std.proofs.Common.{refl, ◌<◌, ◌^◌, ◌∙◌}
use Rattle.std.proofs.Math.Path.{ap₂}
use Rattle.qh_ring.specs.Matrices.{number_in}
use Rattle.qh_kernel.specs.Lanes.{flipped, chosen}
use Rattle.qh_kernel.proofs.BoundLemmas.{flipped_below}
use Rattle.qh_blocks.specs.Blocks.{lane}
use Rattle.qh_blocks.proofs.QuadLemmas.{four_columns, low_low_value}
use Rattle.qh_blocks.proofs.quads.new_low_low.Goals as goal

pub blended-requires-clause-low_block : goal.blended-requires-clause-low_block
blended-requires-clause-low_block g c = c.blended-low.ensures.block c.args.bits c.quad_row-neither_set.ensures.block c.quad_row-second_set.ensures.block

pub blended-requires-clause-high_block : goal.blended-requires-clause-high_block
blended-requires-clause-high_block g c = c.blended-high.ensures.block c.args.bits c.quad_row-first_set.ensures.block c.quad_row-both_set.ensures.block

pub returns-clause-block : goal.returns-clause-block
returns-clause-block g c =
    c.blended.ensures.block c.args.bits
    (c.blended-low.ensures.block c.args.bits c.quad_row-neither_set.ensures.block c.quad_row-second_set.ensures.block)
    (c.blended-high.ensures.block c.args.bits c.quad_row-first_set.ensures.block c.quad_row-both_set.ensures.block)

pub returns-clause-lanes : goal.returns-clause-lanes
returns-clause-lanes g c r l =
    let turned : flipped c.args.q1 r < 2 ^ g.V.Vector.PLACES = flipped_below c.args.q1 g.V.Vector.PLACES r c.requires.second l in
    let second = c.partners-second.ensures.lanes r l in
    let first = c.partners-first.ensures.lanes r l in
    let both = c.partners-both.ensures.lanes r l ∙ c.partners-first.ensures.lanes (flipped c.args.q1 r) turned in
    low_low_value (number_in c.args.m.now.rows) c.args.q0 c.args.q1 (λ s. lane g.V.Vector.lanes s c.args.x.now) r _ _ _ _ _ c.requires.apart
    (c.quad_row-neither_set.ensures.lanes r l ∙ four_columns c.args.m.now.rows 0 _ _ _ _ _ _ _ _ refl second first both)
    (c.quad_row-second_set.ensures.lanes r l ∙ four_columns c.args.m.now.rows 1 _ _ _ _ _ _ _ _ second refl both first)
    (c.quad_row-first_set.ensures.lanes r l ∙ four_columns c.args.m.now.rows 2 _ _ _ _ _ _ _ _ first both refl second)
    (c.quad_row-both_set.ensures.lanes r l ∙ four_columns c.args.m.now.rows 3 _ _ _ _ _ _ _ _ both first second refl)
    (c.blended.ensures.lanes r l ∙ ap₂ (chosen c.args.q0 r) (c.blended-low.ensures.lanes r l) (c.blended-high.ensures.lanes r l))
