use Rattle.std.proofs.Common.{arith, ◌<◌, ◌+◌, ◌^◌, ◌/◌, [], ◌∷◌, length, subst, sym, refl, List}
use Rattle.qh_ring.specs.Matrices.{number_in}
use Rattle.qh_kernel.proofs.PlaceLemmas.{rank}
use Rattle.qh_kernel.proofs.GroupLemmas.{one_qubit, few_numbers, all_pairs}
use Rattle.qh_kernel.specs.Lanes.{flipped}
use Rattle.qh_kernel.proofs.BoundLemmas.{flipped_below}
use Rattle.qh_blocks.specs.declared.block.Block.{Block}
use Rattle.qh_blocks.specs.Blocks.{lane}
use Rattle.qh_blocks.specs.Numbers.{number_at}
use Rattle.qh_blocks.proofs.PartLemmas.{IsPart, part_none, part_all}
use Rattle.qh_blocks.proofs.PairLemmas.{pair_ready, pair_put}
use Rattle.qh_blocks.proofs.QuadLemmas.{high_low_value}
use Rattle.qh_blocks.proofs.quads.high_low_blocks.Goals as goal

pub loop-p-init : goal.loop-p-init
loop-p-init g c = part_none g.V.Vector.lanes g.V.Vector.PLACES (number_in c.args.m.now.rows) ((c.args.q0 + g.V.Vector.PLACES) ∷ c.args.q1 ∷ []) (rank c.args.q0) c.args.bits c.args.bits c.args.v.now (omega arith) c.requires.bounded

pub index_with_gap-low-requires-clause-small : goal.index_with_gap-low-requires-clause-small
index_with_gap-low-requires-clause-small g c =
    let len = c.requires.blocks in
    let test : c.loop-p.p < length c.args.v.now / 2 = c.loop-p-test.true in
    let below : c.loop-p.p < 2 ^ c.args.qubits = omega arith in
    few_numbers c.args.qubits c.loop-p.p c.requires.few below

pub block_at-y-requires : goal.block_at-y-requires
block_at-y-requires g c =
    let ready = pair_ready g.V.Vector.lanes g.V.Vector.PLACES (number_in c.args.m.now.rows) ((c.args.q0 + g.V.Vector.PLACES) ∷ c.args.q1 ∷ []) c.args.qubits c.args.q0 c.args.bits c.args.bits c.loop-p.p c.index_with_gap-low.result c.stride_of-stride.result c.args.v.now c.loop-p.v
    c.requires.first c.requires.blocks c.loop-p-test.true c.index_with_gap-low.ensures c.stride_of-stride.ensures c.requires.bounded c.loop-p.invariant in
    ready.high_below

pub new_high_low-pair-requires-clause-x_block : goal.new_high_low-pair-requires-clause-x_block
new_high_low-pair-requires-clause-x_block g c =
    let ready = pair_ready g.V.Vector.lanes g.V.Vector.PLACES (number_in c.args.m.now.rows) ((c.args.q0 + g.V.Vector.PLACES) ∷ c.args.q1 ∷ []) c.args.qubits c.args.q0 c.args.bits c.args.bits c.loop-p.p c.index_with_gap-low.result c.stride_of-stride.result c.args.v.now c.loop-p.v
    c.requires.first c.requires.blocks c.loop-p-test.true c.index_with_gap-low.ensures c.stride_of-stride.ensures c.requires.bounded c.loop-p.invariant in
    ready.x c.block_at-x.result c.block_at-x.ensures

pub new_high_low-pair-requires-clause-y_block : goal.new_high_low-pair-requires-clause-y_block
new_high_low-pair-requires-clause-y_block g c =
    let ready = pair_ready g.V.Vector.lanes g.V.Vector.PLACES (number_in c.args.m.now.rows) ((c.args.q0 + g.V.Vector.PLACES) ∷ c.args.q1 ∷ []) c.args.qubits c.args.q0 c.args.bits c.args.bits c.loop-p.p c.index_with_gap-low.result c.stride_of-stride.result c.args.v.now c.loop-p.v
    c.requires.first c.requires.blocks c.loop-p-test.true c.index_with_gap-low.ensures c.stride_of-stride.ensures c.requires.bounded c.loop-p.invariant in
    ready.y c.block_at-y.result c.block_at-y.ensures

pub put_pair-requires-clause-high : goal.put_pair-requires-clause-high
put_pair-requires-clause-high g c =
    let ready = pair_ready g.V.Vector.lanes g.V.Vector.PLACES (number_in c.args.m.now.rows) ((c.args.q0 + g.V.Vector.PLACES) ∷ c.args.q1 ∷ []) c.args.qubits c.args.q0 c.args.bits c.args.bits c.loop-p.p c.index_with_gap-low.result c.stride_of-stride.result c.args.v.now c.loop-p.v
    c.requires.first c.requires.blocks c.loop-p-test.true c.index_with_gap-low.ensures c.stride_of-stride.ensures c.requires.bounded c.loop-p.invariant in
    ready.high_below

pub loop-p-preserved : goal.loop-p-preserved
loop-p-preserved g c =
    let ready = pair_ready g.V.Vector.lanes g.V.Vector.PLACES (number_in c.args.m.now.rows) ((c.args.q0 + g.V.Vector.PLACES) ∷ c.args.q1 ∷ []) c.args.qubits c.args.q0 c.args.bits c.args.bits c.loop-p.p c.index_with_gap-low.result c.stride_of-stride.result c.args.v.now c.loop-p.v
    c.requires.first c.requires.blocks c.loop-p-test.true c.index_with_gap-low.ensures c.stride_of-stride.ensures c.requires.bounded c.loop-p.invariant in
    subst (λ (u : List (Block g.row.V.Denot)). IsPart g.V.Vector.lanes g.V.Vector.PLACES (number_in c.args.m.now.rows) ((c.args.q0 + g.V.Vector.PLACES) ∷ c.args.q1 ∷ []) (rank c.args.q0) c.args.bits c.args.v.now u (c.loop-p.p + 1)) (sym c.put_pair.ensures)
    (pair_put g.V.Vector.lanes g.V.Vector.PLACES (number_in c.args.m.now.rows) ((c.args.q0 + g.V.Vector.PLACES) ∷ c.args.q1 ∷ []) c.args.qubits c.args.q0 c.args.bits c.loop-p.p c.index_with_gap-low.result (c.index_with_gap-low.result + c.stride_of-stride.result) c.args.v.now c.loop-p.v c.new_high_low-pair.result.0 c.new_high_low-pair.result.1 c.requires.first c.requires.blocks ready.at c.loop-p.invariant
    (λ r lr.
    let turned : flipped c.args.q1 r < 2 ^ g.V.Vector.PLACES = flipped_below c.args.q1 g.V.Vector.PLACES r c.requires.second lr in
    high_low_value g.V.Vector.PLACES (number_in c.args.m.now.rows) c.args.qubits c.args.q0 c.args.q1 (number_at g.V.Vector.lanes g.V.Vector.PLACES c.args.v.now) c.index_with_gap-low.result (c.index_with_gap-low.result + c.stride_of-stride.result)
    (lane g.V.Vector.lanes r c.block_at-x.result) (lane g.V.Vector.lanes (flipped c.args.q1 r) c.block_at-x.result) (lane g.V.Vector.lanes r c.block_at-y.result) (lane g.V.Vector.lanes (flipped c.args.q1 r) c.block_at-y.result) _ _ _ 0 r
    (one_qubit c.args.qubits c.args.q0 c.requires.first) ready.at.places c.requires.second (omega arith) lr
    (ready.xs c.block_at-x.result c.block_at-x.ensures r lr) (ready.xs c.block_at-x.result c.block_at-x.ensures (flipped c.args.q1 r) turned)
    (ready.ys c.block_at-y.result c.block_at-y.ensures r lr) (ready.ys c.block_at-y.result c.block_at-y.ensures (flipped c.args.q1 r) turned)
    refl refl (c.new_high_low-pair.ensures.low r lr))
    (λ r lr.
    let turned : flipped c.args.q1 r < 2 ^ g.V.Vector.PLACES = flipped_below c.args.q1 g.V.Vector.PLACES r c.requires.second lr in
    high_low_value g.V.Vector.PLACES (number_in c.args.m.now.rows) c.args.qubits c.args.q0 c.args.q1 (number_at g.V.Vector.lanes g.V.Vector.PLACES c.args.v.now) c.index_with_gap-low.result (c.index_with_gap-low.result + c.stride_of-stride.result)
    (lane g.V.Vector.lanes r c.block_at-x.result) (lane g.V.Vector.lanes (flipped c.args.q1 r) c.block_at-x.result) (lane g.V.Vector.lanes r c.block_at-y.result) (lane g.V.Vector.lanes (flipped c.args.q1 r) c.block_at-y.result) _ _ _ 1 r
    (one_qubit c.args.qubits c.args.q0 c.requires.first) ready.at.places c.requires.second (omega arith) lr
    (ready.xs c.block_at-x.result c.block_at-x.ensures r lr) (ready.xs c.block_at-x.result c.block_at-x.ensures (flipped c.args.q1 r) turned)
    (ready.ys c.block_at-y.result c.block_at-y.ensures r lr) (ready.ys c.block_at-y.result c.block_at-y.ensures (flipped c.args.q1 r) turned)
    refl refl (c.new_high_low-pair.ensures.high r lr))
    c.new_high_low-pair.ensures.low_block c.new_high_low-pair.ensures.high_block)

pub returns-clause-exact : goal.returns-clause-exact
returns-clause-exact g c =
    part_all g.V.Vector.lanes g.V.Vector.PLACES (number_in c.args.m.now.rows) ((c.args.q0 + g.V.Vector.PLACES) ∷ c.args.q1 ∷ []) (rank c.args.q0) c.args.bits c.args.v.now c.loop-p.v c.loop-p.p
    (λ k l. all_pairs c.args.qubits c.args.q0 c.loop-p.p (length c.args.v.now) k c.requires.first c.requires.blocks c.loop-p-test.false l) c.loop-p.invariant
