use Rattle.std.proofs.Common.{arith, ◌<◌, ◌+◌, ◌^◌, ap, subst, sym, [], ◌∷◌, length, length-set}
use Rattle.std.proofs.lemmas.List.Elements.{All-set}
use Rattle.qh_ring.specs.declared.number.Omega.{Omega}
use Rattle.qh_ring.specs.Numbers.{IsWithin}
use Rattle.qh_ring.specs.Matrices.{number_in}
use Rattle.qh_kernel.proofs.PlaceLemmas.{rank}
use Rattle.qh_kernel.proofs.DoneLemmas.{done_all}
use Rattle.qh_kernel.proofs.MoveLemmas.{added_more, pair_over}
use Rattle.qh_kernel.proofs.GroupLemmas.{one_qubit, few_numbers, pair_at, all_pairs}
use Rattle.qh_kernel.proofs.kernels.add_pairs.Goals as goal

pub index_with_gap-low-requires-clause-small : goal.index_with_gap-low-requires-clause-small
index_with_gap-low-requires-clause-small c =
    let len = c.requires.numbers in
    let below : c.loop-p.p < 2 ^ c.args.qubits = omega arith in
    few_numbers c.args.qubits c.loop-p.p c.requires.few below

pub element_of_lent-new_pair-in-loop-p : goal.element_of_lent-new_pair-in-loop-p
element_of_lent-new_pair-in-loop-p c =
    let at = pair_at c.args.qubits c.args.q c.loop-p.p c.index_with_gap-low.result c.stride_of-stride.result (length c.args.v.now)
    c.requires.qubit c.requires.numbers c.loop-p-test.true c.index_with_gap-low.ensures c.stride_of-stride.ensures in
    let high = at.high_below in
    let same = c.loop-p.invariant.same_length in
    let len = c.requires.numbers in
    omega arith

pub bounds-v-high : goal.bounds-v-high
bounds-v-high c =
    let at = pair_at c.args.qubits c.args.q c.loop-p.p c.index_with_gap-low.result c.stride_of-stride.result (length c.args.v.now)
    c.requires.qubit c.requires.numbers c.loop-p-test.true c.index_with_gap-low.ensures c.stride_of-stride.ensures in
    let high = at.high_below in
    let same = c.loop-p.invariant.same_length in
    let len = c.requires.numbers in
    rw length-set (omega arith)

pub returns-in_default-clause-over : goal.returns-in_default-clause-over
returns-in_default-clause-over c all =
    let at = pair_at c.args.qubits c.args.q c.loop-p.p c.index_with_gap-low.result c.stride_of-stride.result (length c.args.v.now)
    c.requires.qubit c.requires.numbers c.loop-p-test.true c.index_with_gap-low.ensures c.stride_of-stride.ensures in
    c.in_default.ensures (pair_over c.args.m.now.rows c.args.q (rank c.args.q) c.args.qubits c.args.v.now c.loop-p.v c.index_with_gap-low.result c.loop-p.p c.index_with_gap-low.result
    (c.index_with_gap-low.result + c.stride_of-stride.result) (one_qubit c.args.qubits c.args.q c.requires.qubit) c.requires.numbers at.low_below at.group at.places c.loop-p.invariant all)

pub loop-p-preserved : goal.loop-p-preserved
loop-p-preserved c =
    let at = pair_at c.args.qubits c.args.q c.loop-p.p c.index_with_gap-low.result c.stride_of-stride.result (length c.args.v.now)
    c.requires.qubit c.requires.numbers c.loop-p-test.true c.index_with_gap-low.ensures c.stride_of-stride.ensures in
    let both = c.in-Some.ensures in
    let first = ap (λ (e : Omega × Omega). e.0) both.1 in
    let second = ap (λ (e : Omega × Omega). e.1) both.1 in
    added_more c.args.m.now.rows c.args.q (rank c.args.q) c.args.qubits c.args.v.now c.loop-p.v c.index_with_gap-low.result c.loop-p.p c.index_with_gap-low.result
    (c.index_with_gap-low.result + c.stride_of-stride.result) c.in-Some.numbers.0 c.in-Some.numbers.1
    (one_qubit c.args.qubits c.args.q c.requires.qubit) c.requires.numbers at.low_below at.group at.places c.loop-p.invariant first second
    (All-set (IsWithin 126) _ _ _ (subst (IsWithin 126) (sym second) both.0.1) (All-set (IsWithin 126) _ _ _ (subst (IsWithin 126) (sym first) both.0.0) c.loop-p.invariant.bounded))

pub returns-clause-exact : goal.returns-clause-exact
returns-clause-exact c =
    done_all (number_in c.args.m.now.rows) (c.args.q ∷ []) (rank c.args.q) c.args.v.now c.loop-p.v c.loop-p.p
    (λ k l. all_pairs c.args.qubits c.args.q c.loop-p.p (length c.args.v.now) k c.requires.qubit c.requires.numbers c.loop-p-test.false l) c.loop-p.invariant
