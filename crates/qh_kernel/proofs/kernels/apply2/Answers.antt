use Rattle.std.proofs.Common.{arith, ◌<◌, ◌+◌, ◌^◌, ◌∙◌, [], ◌∷◌, length, slice_index_or, ℕ}
use Rattle.qh_ring.specs.Matrices.{number_in}
use Rattle.qh_kernel.proofs.PlaceLemmas.{rank2, below_four}
use Rattle.qh_kernel.proofs.DoneLemmas.{done_all}
use Rattle.qh_kernel.proofs.MoveLemmas.{moved_more, place_within}
use Rattle.qh_kernel.proofs.GroupLemmas.{two_qubits, few_numbers, are_both, inner_gap, quad_at, all_quads}
use Rattle.qh_kernel.proofs.kernels.apply2.Goals as goal

pub index_with_gap-requires-clause-small : goal.index_with_gap-requires-clause-small
index_with_gap-requires-clause-small c =
    let len = c.requires.numbers in
    let below : c.loop-p.p < 2 ^ c.args.qubits = omega arith in
    few_numbers c.args.qubits c.loop-p.p c.requires.few below

pub index_with_gap-x-requires-clause-small : goal.index_with_gap-x-requires-clause-small
index_with_gap-x-requires-clause-small c =
    let both = are_both c.args.q0 c.args.q1 c.min-near.result c.max-far.result c.requires.apart c.min-near.ensures c.max-far.ensures in
    let o : c.min-near.result < c.max-far.result = both.order in
    let top : c.max-far.result < c.args.qubits = omega (arith, c.requires.first, c.requires.second, c.max-far.ensures) in
    let inner = inner_gap c.args.qubits c.min-near.result c.max-far.result c.loop-p.p (length c.args.v.now) o top c.requires.numbers c.loop-p-test.true in
    let is = c.index_with_gap.ensures in
    let below : c.index_with_gap.result < 2 ^ c.args.qubits = omega arith in
    few_numbers c.args.qubits c.index_with_gap.result c.requires.few below

pub move_quad-requires-clause-places : goal.move_quad-requires-clause-places
move_quad-requires-clause-places c k d l =
    let at = quad_at c.args.qubits c.args.q0 c.args.q1 c.min-near.result c.max-far.result c.loop-p.p c.index_with_gap.result c.index_with_gap-x.result c.stride_of-low.result c.stride_of-high.result (length c.args.v.now)
    c.requires.apart c.requires.first c.requires.second c.requires.numbers c.loop-p-test.true c.min-near.ensures c.max-far.ensures c.index_with_gap.ensures c.index_with_gap-x.ensures c.stride_of-low.ensures c.stride_of-high.ensures in
    let places = c.index_with_gap-x.result ∷ (c.index_with_gap-x.result + c.stride_of-low.result) ∷ (c.index_with_gap-x.result + c.stride_of-high.result) ∷ (c.index_with_gap-x.result + c.stride_of-high.result + c.stride_of-low.result) ∷ [] in
    let within = λ (r : ℕ) (b : r < 4). place_within (c.args.q0 ∷ c.args.q1 ∷ []) c.args.qubits c.index_with_gap-x.result r places c.loop-p.v
    (two_qubits c.args.qubits c.args.q0 c.args.q1 c.requires.first c.requires.second c.requires.apart) (c.loop-p.invariant.same_length ∙ c.requires.numbers) at.below at.places b in
    below_four (λ r. slice_index_or {A = ℕ} places r d < length c.loop-p.v) (within 0 (omega arith)) (within 1 (omega arith)) (within 2 (omega arith)) (within 3 (omega arith)) k l

pub move_quad-requires-clause-columns : goal.move_quad-requires-clause-columns
move_quad-requires-clause-columns c = λ r l. (c.sources2-sources.ensures r l).place

pub loop-p-preserved : goal.loop-p-preserved
loop-p-preserved c =
    let at = quad_at c.args.qubits c.args.q0 c.args.q1 c.min-near.result c.max-far.result c.loop-p.p c.index_with_gap.result c.index_with_gap-x.result c.stride_of-low.result c.stride_of-high.result (length c.args.v.now)
    c.requires.apart c.requires.first c.requires.second c.requires.numbers c.loop-p-test.true c.min-near.ensures c.max-far.ensures c.index_with_gap.ensures c.index_with_gap-x.ensures c.stride_of-low.ensures c.stride_of-high.ensures in
    let places = c.index_with_gap-x.result ∷ (c.index_with_gap-x.result + c.stride_of-low.result) ∷ (c.index_with_gap-x.result + c.stride_of-high.result) ∷ (c.index_with_gap-x.result + c.stride_of-high.result + c.stride_of-low.result) ∷ [] in
    moved_more c.args.m.now.rows (c.args.q0 ∷ c.args.q1 ∷ []) (rank2 c.min-near.result c.max-far.result) c.args.qubits c.args.v.now c.loop-p.v c.move_quad.new.v c.index_with_gap-x.result c.loop-p.p
    c.sources2-sources.result places (two_qubits c.args.qubits c.args.q0 c.args.q1 c.requires.first c.requires.second c.requires.apart)
    c.requires.numbers at.below at.group at.places c.sources2-sources.ensures c.loop-p.invariant c.move_quad.ensures.value c.move_quad.ensures.bounded

pub returns-clause-exact : goal.returns-clause-exact
returns-clause-exact c =
    done_all (number_in c.args.m.now.rows) (c.args.q0 ∷ c.args.q1 ∷ []) (rank2 c.min-near.result c.max-far.result) c.args.v.now c.loop-p.v c.loop-p.p
    (λ k l. all_quads c.args.qubits c.args.q0 c.args.q1 c.min-near.result c.max-far.result c.loop-p.p (length c.args.v.now) k
    c.requires.apart c.requires.first c.requires.second c.requires.numbers c.loop-p-test.false c.min-near.ensures c.max-far.ensures l)
    c.loop-p.invariant
