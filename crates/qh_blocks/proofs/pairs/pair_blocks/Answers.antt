use Rattle.std.proofs.Common.{arith, ◌<◌, ◌+◌, ◌^◌, ◌/◌, [], ◌∷◌, length, subst, sym, List}
use Rattle.qh_ring.specs.Matrices.{number_in}
use Rattle.qh_kernel.proofs.PlaceLemmas.{rank}
use Rattle.qh_kernel.proofs.GroupLemmas.{few_numbers, all_pairs}
use Rattle.qh_blocks.specs.declared.block.Block.{Block}
use Rattle.qh_blocks.specs.Widths.{two_rows, width_after}
use Rattle.qh_blocks.proofs.WidthLemmas.{width_least}
use Rattle.qh_blocks.proofs.PartLemmas.{IsPart, part_none, part_all}
use Rattle.qh_blocks.proofs.PairLemmas.{pair_ready, pair_more}
use Rattle.qh_blocks.proofs.pairs.pair_blocks.Goals as goal

pub loop-p-init : goal.loop-p-init
loop-p-init g c =
    part_none g.V.Vector.lanes g.V.Vector.PLACES (number_in (two_rows c.args.first c.args.second c.args.third c.args.fourth)) ((c.args.q + g.V.Vector.PLACES) ∷ []) (rank c.args.q) c.args.bits (width_after (two_rows c.args.first c.args.second c.args.third c.args.fourth) c.args.bits) c.args.v.now (width_least (two_rows c.args.first c.args.second c.args.third c.args.fourth) c.args.bits) c.requires.bounded

pub index_with_gap-low-requires-clause-small : goal.index_with_gap-low-requires-clause-small
index_with_gap-low-requires-clause-small g c =
    let len = c.requires.blocks in
    let test : c.loop-p.p < length c.args.v.now / 2 = c.loop-p-test.true in
    let below : c.loop-p.p < 2 ^ c.args.qubits = omega arith in
    few_numbers c.args.qubits c.loop-p.p c.requires.few below

pub block_at-y-requires : goal.block_at-y-requires
block_at-y-requires g c =
    let ready = pair_ready g.V.Vector.lanes g.V.Vector.PLACES (number_in (two_rows c.args.first c.args.second c.args.third c.args.fourth)) ((c.args.q + g.V.Vector.PLACES) ∷ []) c.args.qubits c.args.q c.args.bits (width_after (two_rows c.args.first c.args.second c.args.third c.args.fourth) c.args.bits) c.loop-p.p c.index_with_gap-low.result c.stride_of-stride.result c.args.v.now c.loop-p.v
    c.requires.qubit c.requires.blocks c.loop-p-test.true c.index_with_gap-low.ensures c.stride_of-stride.ensures c.requires.bounded c.loop-p.invariant in
    ready.high_below

pub new_pair-pair-requires-clause-x_block : goal.new_pair-pair-requires-clause-x_block
new_pair-pair-requires-clause-x_block g c =
    let ready = pair_ready g.V.Vector.lanes g.V.Vector.PLACES (number_in (two_rows c.args.first c.args.second c.args.third c.args.fourth)) ((c.args.q + g.V.Vector.PLACES) ∷ []) c.args.qubits c.args.q c.args.bits (width_after (two_rows c.args.first c.args.second c.args.third c.args.fourth) c.args.bits) c.loop-p.p c.index_with_gap-low.result c.stride_of-stride.result c.args.v.now c.loop-p.v
    c.requires.qubit c.requires.blocks c.loop-p-test.true c.index_with_gap-low.ensures c.stride_of-stride.ensures c.requires.bounded c.loop-p.invariant in
    ready.x c.block_at-x.result c.block_at-x.ensures

pub new_pair-pair-requires-clause-y_block : goal.new_pair-pair-requires-clause-y_block
new_pair-pair-requires-clause-y_block g c =
    let ready = pair_ready g.V.Vector.lanes g.V.Vector.PLACES (number_in (two_rows c.args.first c.args.second c.args.third c.args.fourth)) ((c.args.q + g.V.Vector.PLACES) ∷ []) c.args.qubits c.args.q c.args.bits (width_after (two_rows c.args.first c.args.second c.args.third c.args.fourth) c.args.bits) c.loop-p.p c.index_with_gap-low.result c.stride_of-stride.result c.args.v.now c.loop-p.v
    c.requires.qubit c.requires.blocks c.loop-p-test.true c.index_with_gap-low.ensures c.stride_of-stride.ensures c.requires.bounded c.loop-p.invariant in
    ready.y c.block_at-y.result c.block_at-y.ensures

pub put_pair-requires-clause-high : goal.put_pair-requires-clause-high
put_pair-requires-clause-high g c =
    let ready = pair_ready g.V.Vector.lanes g.V.Vector.PLACES (number_in (two_rows c.args.first c.args.second c.args.third c.args.fourth)) ((c.args.q + g.V.Vector.PLACES) ∷ []) c.args.qubits c.args.q c.args.bits (width_after (two_rows c.args.first c.args.second c.args.third c.args.fourth) c.args.bits) c.loop-p.p c.index_with_gap-low.result c.stride_of-stride.result c.args.v.now c.loop-p.v
    c.requires.qubit c.requires.blocks c.loop-p-test.true c.index_with_gap-low.ensures c.stride_of-stride.ensures c.requires.bounded c.loop-p.invariant in
    ready.high_below

pub loop-p-preserved : goal.loop-p-preserved
loop-p-preserved g c =
    let ready = pair_ready g.V.Vector.lanes g.V.Vector.PLACES (number_in (two_rows c.args.first c.args.second c.args.third c.args.fourth)) ((c.args.q + g.V.Vector.PLACES) ∷ []) c.args.qubits c.args.q c.args.bits (width_after (two_rows c.args.first c.args.second c.args.third c.args.fourth) c.args.bits) c.loop-p.p c.index_with_gap-low.result c.stride_of-stride.result c.args.v.now c.loop-p.v
    c.requires.qubit c.requires.blocks c.loop-p-test.true c.index_with_gap-low.ensures c.stride_of-stride.ensures c.requires.bounded c.loop-p.invariant in
    subst (λ (u : List (Block g.row.V.Denot)). IsPart g.V.Vector.lanes g.V.Vector.PLACES (number_in (two_rows c.args.first c.args.second c.args.third c.args.fourth)) ((c.args.q + g.V.Vector.PLACES) ∷ []) (rank c.args.q) (width_after (two_rows c.args.first c.args.second c.args.third c.args.fourth) c.args.bits) c.args.v.now u (c.loop-p.p + 1)) (sym c.put_pair.ensures)
    (pair_more g.V.Vector.lanes g.V.Vector.PLACES (number_in (two_rows c.args.first c.args.second c.args.third c.args.fourth)) c.args.qubits c.args.q c.args.bits (width_after (two_rows c.args.first c.args.second c.args.third c.args.fourth) c.args.bits) c.loop-p.p c.index_with_gap-low.result (c.index_with_gap-low.result + c.stride_of-stride.result) c.args.v.now c.loop-p.v
    c.block_at-x.result c.block_at-y.result c.new_pair-pair.result.0 c.new_pair-pair.result.1 c.requires.qubit c.requires.blocks ready c.loop-p.invariant c.block_at-x.ensures c.block_at-y.ensures
    c.new_pair-pair.ensures.low c.new_pair-pair.ensures.high c.new_pair-pair.ensures.low_block c.new_pair-pair.ensures.high_block)

pub returns-clause-exact : goal.returns-clause-exact
returns-clause-exact g c =
    part_all g.V.Vector.lanes g.V.Vector.PLACES (number_in (two_rows c.args.first c.args.second c.args.third c.args.fourth)) ((c.args.q + g.V.Vector.PLACES) ∷ []) (rank c.args.q) (width_after (two_rows c.args.first c.args.second c.args.third c.args.fourth) c.args.bits) c.args.v.now c.loop-p.v c.loop-p.p
    (λ k l. all_pairs c.args.qubits c.args.q c.loop-p.p (length c.args.v.now) k c.requires.qubit c.requires.blocks c.loop-p-test.false l) c.loop-p.invariant
