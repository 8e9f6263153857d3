use Rattle.std.proofs.Common.{arith, ◌<◌, ◌+◌, ◌^◌, [], ◌∷◌, length, slice_index_or, ℕ}
use Rattle.qh_ring.specs.Matrices.{number_in}
use Rattle.qh_kernel.proofs.PlaceLemmas.{rank, below_two}
use Rattle.qh_kernel.proofs.DoneLemmas.{done_all}
use Rattle.qh_kernel.proofs.MoveLemmas.{moved_more}
use Rattle.qh_kernel.proofs.GroupLemmas.{one_qubit, few_numbers, pair_at, all_pairs}
use Rattle.qh_kernel.proofs.kernels.move_pairs.Goals as goal

pub index_with_gap-low-requires-clause-small : goal.index_with_gap-low-requires-clause-small
index_with_gap-low-requires-clause-small c =
    let len = c.requires.numbers in
    let below : c.loop-p.p < 2 ^ c.args.qubits = omega arith in
    few_numbers c.args.qubits c.loop-p.p c.requires.few below

pub move_pair-requires-clause-places : goal.move_pair-requires-clause-places
move_pair-requires-clause-places c k d l =
    let at = pair_at c.args.qubits c.args.q c.loop-p.p c.index_with_gap-low.result c.stride_of-stride.result (length c.args.v.now)
    c.requires.qubit c.requires.numbers c.loop-p-test.true c.index_with_gap-low.ensures c.stride_of-stride.ensures in
    let len = c.requires.numbers in
    let same = c.loop-p.invariant.same_length in
    let low = at.low_below in
    let high = at.high_below in
    below_two (λ r. slice_index_or {A = ℕ} (c.index_with_gap-low.result ∷ (c.index_with_gap-low.result + c.stride_of-stride.result) ∷ []) r d < length c.loop-p.v) (omega arith) (omega arith) k l

pub move_pair-requires-clause-columns : goal.move_pair-requires-clause-columns
move_pair-requires-clause-columns c = λ r l. (c.sources1-sources.ensures r l).place

pub loop-p-preserved : goal.loop-p-preserved
loop-p-preserved c =
    let at = pair_at c.args.qubits c.args.q c.loop-p.p c.index_with_gap-low.result c.stride_of-stride.result (length c.args.v.now)
    c.requires.qubit c.requires.numbers c.loop-p-test.true c.index_with_gap-low.ensures c.stride_of-stride.ensures in
    moved_more c.args.m.now.rows (c.args.q ∷ []) (rank c.args.q) c.args.qubits c.args.v.now c.loop-p.v c.move_pair.new.v c.index_with_gap-low.result c.loop-p.p
    c.sources1-sources.result (c.index_with_gap-low.result ∷ (c.index_with_gap-low.result + c.stride_of-stride.result) ∷ [])
    (one_qubit c.args.qubits c.args.q c.requires.qubit) c.requires.numbers at.low_below at.group at.places c.sources1-sources.ensures c.loop-p.invariant
    c.move_pair.ensures.value c.move_pair.ensures.bounded

pub returns-clause-exact : goal.returns-clause-exact
returns-clause-exact c =
    done_all (number_in c.args.m.now.rows) (c.args.q ∷ []) (rank c.args.q) c.args.v.now c.loop-p.v c.loop-p.p
    (λ k l. all_pairs c.args.qubits c.args.q c.loop-p.p (length c.args.v.now) k c.requires.qubit c.requires.numbers c.loop-p-test.false l) c.loop-p.invariant
