use Rattle.std.proofs.Common.{arith, ◌<◌, ◌+◌, ◌^◌, ◌/◌, [], ◌∷◌, length, subst, sym, List}
use Rattle.qh_ring.specs.Matrices.{number_in}
use Rattle.qh_kernel.proofs.PlaceLemmas.{rank2}
use Rattle.qh_kernel.proofs.GroupLemmas.{two_qubits, few_numbers, are_both, inner_gap, quad_at, all_quads}
use Rattle.qh_blocks.specs.declared.block.Block.{Block}
use Rattle.qh_blocks.proofs.PartLemmas.{IsPart, group_ready, part_none, part_all}
use Rattle.qh_blocks.proofs.QuadLemmas.{four_places, quad_more}
use Rattle.qh_blocks.proofs.quads.quad_blocks.Goals as goal

pub loop-p-init : goal.loop-p-init
loop-p-init g c = part_none g.V.Vector.lanes g.V.Vector.PLACES (number_in c.args.m.now.rows) ((c.args.q0 + g.V.Vector.PLACES) ∷ (c.args.q1 + g.V.Vector.PLACES) ∷ []) (rank2 c.min-near.result c.max-far.result) c.args.bits c.args.bits c.args.v.now (omega arith) c.requires.bounded

pub index_with_gap-requires-clause-small : goal.index_with_gap-requires-clause-small
index_with_gap-requires-clause-small g c =
    let len = c.requires.blocks in
    let test : c.loop-p.p < length c.args.v.now / 4 = c.loop-p-test.true in
    let below : c.loop-p.p < 2 ^ c.args.qubits = omega arith in
    few_numbers c.args.qubits c.loop-p.p c.requires.few below

pub index_with_gap-x-requires-clause-small : goal.index_with_gap-x-requires-clause-small
index_with_gap-x-requires-clause-small g c =
    let both = are_both c.args.q0 c.args.q1 c.min-near.result c.max-far.result c.requires.apart c.min-near.ensures c.max-far.ensures in
    let o : c.min-near.result < c.max-far.result = both.order in
    let top : c.max-far.result < c.args.qubits = omega (arith, c.requires.first, c.requires.second, c.max-far.ensures) in
    let inner = inner_gap c.args.qubits c.min-near.result c.max-far.result c.loop-p.p (length c.args.v.now) o top c.requires.blocks c.loop-p-test.true in
    let is = c.index_with_gap.ensures in
    let below : c.index_with_gap.result < 2 ^ c.args.qubits = omega arith in
    few_numbers c.args.qubits c.index_with_gap.result c.requires.few below

pub quad_at-quad-requires-clause-second : goal.quad_at-quad-requires-clause-second
quad_at-quad-requires-clause-second g c =
    let at = quad_at c.args.qubits c.args.q0 c.args.q1 c.min-near.result c.max-far.result c.loop-p.p c.index_with_gap.result c.index_with_gap-x.result c.stride_of-low.result c.stride_of-high.result (length c.args.v.now)
    c.requires.apart c.requires.first c.requires.second c.requires.blocks c.loop-p-test.true c.min-near.ensures c.max-far.ensures c.index_with_gap.ensures c.index_with_gap-x.ensures c.stride_of-low.ensures c.stride_of-high.ensures in
    let ready = group_ready g.V.Vector.lanes g.V.Vector.PLACES (number_in c.args.m.now.rows) ((c.args.q0 + g.V.Vector.PLACES) ∷ (c.args.q1 + g.V.Vector.PLACES) ∷ []) (rank2 c.min-near.result c.max-far.result) c.args.bits c.args.bits c.args.v.now c.loop-p.v c.loop-p.p (c.args.q0 ∷ c.args.q1 ∷ []) c.args.qubits c.index_with_gap-x.result
    (four_places c.index_with_gap-x.result c.stride_of-low.result c.stride_of-high.result) (two_qubits c.args.qubits c.args.q0 c.args.q1 c.requires.first c.requires.second c.requires.apart) c.requires.blocks at.below at.group at.places c.requires.bounded c.loop-p.invariant in
    ready.below 1 (omega arith)

pub quad_at-quad-requires-clause-third : goal.quad_at-quad-requires-clause-third
quad_at-quad-requires-clause-third g c =
    let at = quad_at c.args.qubits c.args.q0 c.args.q1 c.min-near.result c.max-far.result c.loop-p.p c.index_with_gap.result c.index_with_gap-x.result c.stride_of-low.result c.stride_of-high.result (length c.args.v.now)
    c.requires.apart c.requires.first c.requires.second c.requires.blocks c.loop-p-test.true c.min-near.ensures c.max-far.ensures c.index_with_gap.ensures c.index_with_gap-x.ensures c.stride_of-low.ensures c.stride_of-high.ensures in
    let ready = group_ready g.V.Vector.lanes g.V.Vector.PLACES (number_in c.args.m.now.rows) ((c.args.q0 + g.V.Vector.PLACES) ∷ (c.args.q1 + g.V.Vector.PLACES) ∷ []) (rank2 c.min-near.result c.max-far.result) c.args.bits c.args.bits c.args.v.now c.loop-p.v c.loop-p.p (c.args.q0 ∷ c.args.q1 ∷ []) c.args.qubits c.index_with_gap-x.result
    (four_places c.index_with_gap-x.result c.stride_of-low.result c.stride_of-high.result) (two_qubits c.args.qubits c.args.q0 c.args.q1 c.requires.first c.requires.second c.requires.apart) c.requires.blocks at.below at.group at.places c.requires.bounded c.loop-p.invariant in
    ready.below 2 (omega arith)

pub quad_at-quad-requires-clause-fourth : goal.quad_at-quad-requires-clause-fourth
quad_at-quad-requires-clause-fourth g c =
    let at = quad_at c.args.qubits c.args.q0 c.args.q1 c.min-near.result c.max-far.result c.loop-p.p c.index_with_gap.result c.index_with_gap-x.result c.stride_of-low.result c.stride_of-high.result (length c.args.v.now)
    c.requires.apart c.requires.first c.requires.second c.requires.blocks c.loop-p-test.true c.min-near.ensures c.max-far.ensures c.index_with_gap.ensures c.index_with_gap-x.ensures c.stride_of-low.ensures c.stride_of-high.ensures in
    let ready = group_ready g.V.Vector.lanes g.V.Vector.PLACES (number_in c.args.m.now.rows) ((c.args.q0 + g.V.Vector.PLACES) ∷ (c.args.q1 + g.V.Vector.PLACES) ∷ []) (rank2 c.min-near.result c.max-far.result) c.args.bits c.args.bits c.args.v.now c.loop-p.v c.loop-p.p (c.args.q0 ∷ c.args.q1 ∷ []) c.args.qubits c.index_with_gap-x.result
    (four_places c.index_with_gap-x.result c.stride_of-low.result c.stride_of-high.result) (two_qubits c.args.qubits c.args.q0 c.args.q1 c.requires.first c.requires.second c.requires.apart) c.requires.blocks at.below at.group at.places c.requires.bounded c.loop-p.invariant in
    ready.below 3 (omega arith)

pub put_quad-requires-clause-second : goal.put_quad-requires-clause-second
put_quad-requires-clause-second g c =
    let at = quad_at c.args.qubits c.args.q0 c.args.q1 c.min-near.result c.max-far.result c.loop-p.p c.index_with_gap.result c.index_with_gap-x.result c.stride_of-low.result c.stride_of-high.result (length c.args.v.now)
    c.requires.apart c.requires.first c.requires.second c.requires.blocks c.loop-p-test.true c.min-near.ensures c.max-far.ensures c.index_with_gap.ensures c.index_with_gap-x.ensures c.stride_of-low.ensures c.stride_of-high.ensures in
    let ready = group_ready g.V.Vector.lanes g.V.Vector.PLACES (number_in c.args.m.now.rows) ((c.args.q0 + g.V.Vector.PLACES) ∷ (c.args.q1 + g.V.Vector.PLACES) ∷ []) (rank2 c.min-near.result c.max-far.result) c.args.bits c.args.bits c.args.v.now c.loop-p.v c.loop-p.p (c.args.q0 ∷ c.args.q1 ∷ []) c.args.qubits c.index_with_gap-x.result
    (four_places c.index_with_gap-x.result c.stride_of-low.result c.stride_of-high.result) (two_qubits c.args.qubits c.args.q0 c.args.q1 c.requires.first c.requires.second c.requires.apart) c.requires.blocks at.below at.group at.places c.requires.bounded c.loop-p.invariant in
    ready.below 1 (omega arith)

pub put_quad-requires-clause-third : goal.put_quad-requires-clause-third
put_quad-requires-clause-third g c =
    let at = quad_at c.args.qubits c.args.q0 c.args.q1 c.min-near.result c.max-far.result c.loop-p.p c.index_with_gap.result c.index_with_gap-x.result c.stride_of-low.result c.stride_of-high.result (length c.args.v.now)
    c.requires.apart c.requires.first c.requires.second c.requires.blocks c.loop-p-test.true c.min-near.ensures c.max-far.ensures c.index_with_gap.ensures c.index_with_gap-x.ensures c.stride_of-low.ensures c.stride_of-high.ensures in
    let ready = group_ready g.V.Vector.lanes g.V.Vector.PLACES (number_in c.args.m.now.rows) ((c.args.q0 + g.V.Vector.PLACES) ∷ (c.args.q1 + g.V.Vector.PLACES) ∷ []) (rank2 c.min-near.result c.max-far.result) c.args.bits c.args.bits c.args.v.now c.loop-p.v c.loop-p.p (c.args.q0 ∷ c.args.q1 ∷ []) c.args.qubits c.index_with_gap-x.result
    (four_places c.index_with_gap-x.result c.stride_of-low.result c.stride_of-high.result) (two_qubits c.args.qubits c.args.q0 c.args.q1 c.requires.first c.requires.second c.requires.apart) c.requires.blocks at.below at.group at.places c.requires.bounded c.loop-p.invariant in
    ready.below 2 (omega arith)

pub put_quad-requires-clause-fourth : goal.put_quad-requires-clause-fourth
put_quad-requires-clause-fourth g c =
    let at = quad_at c.args.qubits c.args.q0 c.args.q1 c.min-near.result c.max-far.result c.loop-p.p c.index_with_gap.result c.index_with_gap-x.result c.stride_of-low.result c.stride_of-high.result (length c.args.v.now)
    c.requires.apart c.requires.first c.requires.second c.requires.blocks c.loop-p-test.true c.min-near.ensures c.max-far.ensures c.index_with_gap.ensures c.index_with_gap-x.ensures c.stride_of-low.ensures c.stride_of-high.ensures in
    let ready = group_ready g.V.Vector.lanes g.V.Vector.PLACES (number_in c.args.m.now.rows) ((c.args.q0 + g.V.Vector.PLACES) ∷ (c.args.q1 + g.V.Vector.PLACES) ∷ []) (rank2 c.min-near.result c.max-far.result) c.args.bits c.args.bits c.args.v.now c.loop-p.v c.loop-p.p (c.args.q0 ∷ c.args.q1 ∷ []) c.args.qubits c.index_with_gap-x.result
    (four_places c.index_with_gap-x.result c.stride_of-low.result c.stride_of-high.result) (two_qubits c.args.qubits c.args.q0 c.args.q1 c.requires.first c.requires.second c.requires.apart) c.requires.blocks at.below at.group at.places c.requires.bounded c.loop-p.invariant in
    ready.below 3 (omega arith)

pub new_quad-requires-clause-blocks : goal.new_quad-requires-clause-blocks
new_quad-requires-clause-blocks g c =
    let at = quad_at c.args.qubits c.args.q0 c.args.q1 c.min-near.result c.max-far.result c.loop-p.p c.index_with_gap.result c.index_with_gap-x.result c.stride_of-low.result c.stride_of-high.result (length c.args.v.now)
    c.requires.apart c.requires.first c.requires.second c.requires.blocks c.loop-p-test.true c.min-near.ensures c.max-far.ensures c.index_with_gap.ensures c.index_with_gap-x.ensures c.stride_of-low.ensures c.stride_of-high.ensures in
    let ready = group_ready g.V.Vector.lanes g.V.Vector.PLACES (number_in c.args.m.now.rows) ((c.args.q0 + g.V.Vector.PLACES) ∷ (c.args.q1 + g.V.Vector.PLACES) ∷ []) (rank2 c.min-near.result c.max-far.result) c.args.bits c.args.bits c.args.v.now c.loop-p.v c.loop-p.p (c.args.q0 ∷ c.args.q1 ∷ []) c.args.qubits c.index_with_gap-x.result
    (four_places c.index_with_gap-x.result c.stride_of-low.result c.stride_of-high.result) (two_qubits c.args.qubits c.args.q0 c.args.q1 c.requires.first c.requires.second c.requires.apart) c.requires.blocks at.below at.group at.places c.requires.bounded c.loop-p.invariant in
    record {
      first = ready.block 0 _ (omega arith) c.quad_at-quad.ensures.first;
      second = ready.block 1 _ (omega arith) c.quad_at-quad.ensures.second;
      third = ready.block 2 _ (omega arith) c.quad_at-quad.ensures.third;
      fourth = ready.block 3 _ (omega arith) c.quad_at-quad.ensures.fourth;
    }

pub loop-p-preserved : goal.loop-p-preserved
loop-p-preserved g c =
    let at = quad_at c.args.qubits c.args.q0 c.args.q1 c.min-near.result c.max-far.result c.loop-p.p c.index_with_gap.result c.index_with_gap-x.result c.stride_of-low.result c.stride_of-high.result (length c.args.v.now)
    c.requires.apart c.requires.first c.requires.second c.requires.blocks c.loop-p-test.true c.min-near.ensures c.max-far.ensures c.index_with_gap.ensures c.index_with_gap-x.ensures c.stride_of-low.ensures c.stride_of-high.ensures in
    let ready = group_ready g.V.Vector.lanes g.V.Vector.PLACES (number_in c.args.m.now.rows) ((c.args.q0 + g.V.Vector.PLACES) ∷ (c.args.q1 + g.V.Vector.PLACES) ∷ []) (rank2 c.min-near.result c.max-far.result) c.args.bits c.args.bits c.args.v.now c.loop-p.v c.loop-p.p (c.args.q0 ∷ c.args.q1 ∷ []) c.args.qubits c.index_with_gap-x.result
    (four_places c.index_with_gap-x.result c.stride_of-low.result c.stride_of-high.result) (two_qubits c.args.qubits c.args.q0 c.args.q1 c.requires.first c.requires.second c.requires.apart) c.requires.blocks at.below at.group at.places c.requires.bounded c.loop-p.invariant in
    subst (λ (u : List (Block g.row.V.Denot)). IsPart g.V.Vector.lanes g.V.Vector.PLACES (number_in c.args.m.now.rows) ((c.args.q0 + g.V.Vector.PLACES) ∷ (c.args.q1 + g.V.Vector.PLACES) ∷ []) (rank2 c.min-near.result c.max-far.result) c.args.bits c.args.v.now u (c.loop-p.p + 1)) (sym c.put_quad.ensures)
    (quad_more g.V.Vector.lanes g.V.Vector.PLACES (number_in c.args.m.now.rows) c.args.qubits c.args.q0 c.args.q1 c.min-near.result c.max-far.result c.args.bits c.loop-p.p c.index_with_gap-x.result c.stride_of-low.result c.stride_of-high.result c.args.v.now c.loop-p.v
    c.quad_at-quad.result c.new_quad.result c.requires.first c.requires.second c.requires.apart c.requires.blocks at ready c.loop-p.invariant
    c.quad_at-quad.ensures.first c.quad_at-quad.ensures.second c.quad_at-quad.ensures.third c.quad_at-quad.ensures.fourth c.new_quad.ensures.lanes c.new_quad.ensures.blocks)

pub returns-clause-exact : goal.returns-clause-exact
returns-clause-exact g c =
    part_all g.V.Vector.lanes g.V.Vector.PLACES (number_in c.args.m.now.rows) ((c.args.q0 + g.V.Vector.PLACES) ∷ (c.args.q1 + g.V.Vector.PLACES) ∷ []) (rank2 c.min-near.result c.max-far.result) c.args.bits c.args.v.now c.loop-p.v c.loop-p.p
    (λ k l. all_quads c.args.qubits c.args.q0 c.args.q1 c.min-near.result c.max-far.result c.loop-p.p (length c.args.v.now) k
    c.requires.apart c.requires.first c.requires.second c.requires.blocks c.loop-p-test.false c.min-near.ensures c.max-far.ensures l)
    c.loop-p.invariant
