use Rattle.std.proofs.Common.{arith, ◌≤◌, ◌∙◌, [], ◌∷◌, length}
use Rattle.qh_ring.specs.Matrices.{number_in}
use Rattle.qh_blocks.specs.Blocks.{lane}
use Rattle.qh_blocks.specs.Numbers.{number_at}
use Rattle.qh_blocks.proofs.PartLemmas.{part_none, part_one, part_all, old_number, old_block}
use Rattle.qh_blocks.proofs.ValueLemmas.{applied_within}
use Rattle.qh_blocks.proofs.quads.low_low_blocks.Goals as goal

pub loop-n-init : goal.loop-n-init
loop-n-init g c = part_none g.V.Vector.lanes g.V.Vector.PLACES (number_in c.args.m.now.rows) (c.args.q0 ∷ c.args.q1 ∷ []) (λ k. k) c.args.bits c.args.bits c.args.v.now (omega arith) c.requires.bounded

pub new_low_low-requires-clause-block : goal.new_low_low-requires-clause-block
new_low_low-requires-clause-block g c =
    old_block g.V.Vector.lanes g.V.Vector.PLACES (number_in c.args.m.now.rows) (c.args.q0 ∷ c.args.q1 ∷ []) (λ k. k) c.args.bits c.args.bits c.args.v.now c.loop-n.v c.loop-n.n c.loop-n.n c.index-v-n.result c.loop-n-test.true (omega arith) c.requires.bounded c.loop-n.invariant c.index-v-n.is

pub loop-n-preserved : goal.loop-n-preserved
loop-n-preserved g c =
    part_one g.V.Vector.lanes g.V.Vector.PLACES (number_in c.args.m.now.rows) (c.args.q0 ∷ c.args.q1 ∷ []) c.args.bits c.args.v.now c.loop-n.v c.loop-n.n c.new_low_low.result c.loop-n-test.true c.loop-n.invariant
    (λ r l.
    c.new_low_low.ensures.lanes r l
    ∙ applied_within g.V.Vector.PLACES (number_in c.args.m.now.rows) (c.args.q0 ∷ c.args.q1 ∷ []) (number_at g.V.Vector.lanes g.V.Vector.PLACES c.args.v.now) (λ s. lane g.V.Vector.lanes s c.index-v-n.result) r c.loop-n.n (c.requires.first, (c.requires.second, tt)) l
    (old_number g.V.Vector.lanes g.V.Vector.PLACES (number_in c.args.m.now.rows) (c.args.q0 ∷ c.args.q1 ∷ []) (λ k. k) c.args.bits c.args.v.now c.loop-n.v c.loop-n.n c.loop-n.n c.index-v-n.result c.loop-n-test.true (omega arith) c.loop-n.invariant c.index-v-n.is))
    c.new_low_low.ensures.block

pub returns-clause-exact : goal.returns-clause-exact
returns-clause-exact g c =
    part_all g.V.Vector.lanes g.V.Vector.PLACES (number_in c.args.m.now.rows) (c.args.q0 ∷ c.args.q1 ∷ []) (λ k. k) c.args.bits c.args.v.now c.loop-n.v c.loop-n.n
    (λ k l. let e : length c.args.v.now ≤ c.loop-n.n = c.loop-n-test.false in omega arith) c.loop-n.invariant
