use Rattle.std.proofs.Common.{arith, ◌≤◌, ◌∙◌, [], ◌∷◌, length}
use Rattle.qh_ring.specs.Matrices.{number_in}
use Rattle.qh_blocks.specs.Blocks.{lane}
use Rattle.qh_blocks.specs.Numbers.{number_at}
use Rattle.qh_blocks.specs.Widths.{two_rows, width_after}
use Rattle.qh_blocks.proofs.WidthLemmas.{width_least}
use Rattle.qh_blocks.proofs.PartLemmas.{part_none, part_one, part_all, old_number, old_block}
use Rattle.qh_blocks.proofs.ValueLemmas.{applied_within}
use Rattle.qh_blocks.proofs.pairs.lane_blocks.Goals as goal

pub loop-n-init : goal.loop-n-init
loop-n-init g c =
    part_none g.V.Vector.lanes g.V.Vector.PLACES (number_in (two_rows c.args.first c.args.second c.args.third c.args.fourth)) (c.args.q ∷ []) (λ k. k) c.args.bits (width_after (two_rows c.args.first c.args.second c.args.third c.args.fourth) c.args.bits) c.args.v.now (width_least (two_rows c.args.first c.args.second c.args.third c.args.fourth) c.args.bits) c.requires.bounded

pub new_lanes-requires-clause-block : goal.new_lanes-requires-clause-block
new_lanes-requires-clause-block g c =
    old_block g.V.Vector.lanes g.V.Vector.PLACES (number_in (two_rows c.args.first c.args.second c.args.third c.args.fourth)) (c.args.q ∷ []) (λ k. k) c.args.bits (width_after (two_rows c.args.first c.args.second c.args.third c.args.fourth) c.args.bits) c.args.v.now c.loop-n.v c.loop-n.n c.loop-n.n c.index-v-n.result
    c.loop-n-test.true (omega arith) c.requires.bounded c.loop-n.invariant c.index-v-n.is

pub loop-n-preserved : goal.loop-n-preserved
loop-n-preserved g c =
    part_one g.V.Vector.lanes g.V.Vector.PLACES (number_in (two_rows c.args.first c.args.second c.args.third c.args.fourth)) (c.args.q ∷ []) (width_after (two_rows c.args.first c.args.second c.args.third c.args.fourth) c.args.bits) c.args.v.now c.loop-n.v c.loop-n.n c.new_lanes.result c.loop-n-test.true c.loop-n.invariant
    (λ r l.
    c.new_lanes.ensures.lanes r l
    ∙ applied_within g.V.Vector.PLACES (number_in (two_rows c.args.first c.args.second c.args.third c.args.fourth)) (c.args.q ∷ []) (number_at g.V.Vector.lanes g.V.Vector.PLACES c.args.v.now) (λ s. lane g.V.Vector.lanes s c.index-v-n.result) r c.loop-n.n (c.requires.place, tt) l
    (old_number g.V.Vector.lanes g.V.Vector.PLACES (number_in (two_rows c.args.first c.args.second c.args.third c.args.fourth)) (c.args.q ∷ []) (λ k. k) (width_after (two_rows c.args.first c.args.second c.args.third c.args.fourth) c.args.bits) c.args.v.now c.loop-n.v c.loop-n.n c.loop-n.n c.index-v-n.result
    c.loop-n-test.true (omega arith) c.loop-n.invariant c.index-v-n.is))
    c.new_lanes.ensures.block

pub returns-clause-exact : goal.returns-clause-exact
returns-clause-exact g c =
    part_all g.V.Vector.lanes g.V.Vector.PLACES (number_in (two_rows c.args.first c.args.second c.args.third c.args.fourth)) (c.args.q ∷ []) (λ k. k) (width_after (two_rows c.args.first c.args.second c.args.third c.args.fourth) c.args.bits) c.args.v.now c.loop-n.v c.loop-n.n
    (λ k l. let e : length c.args.v.now ≤ c.loop-n.n = c.loop-n-test.false in omega arith) c.loop-n.invariant
