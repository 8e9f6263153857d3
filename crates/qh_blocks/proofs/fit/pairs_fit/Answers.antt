use Rattle.std.proofs.Common.{arith, rules, refl, ◌<◌, ◌+◌, ◌/◌, ◌^◌, [], ◌∷◌, ℕ, length, subst, sym, IsTrue}
use Rattle.qh_ring.specs.Numbers.{IsWithin}
use Rattle.qh_ring.specs.Matrices.{number_in}
use Rattle.qh_kernel.proofs.PlaceLemmas.{rank}
use Rattle.qh_kernel.proofs.GroupLemmas.{one_qubit, few_numbers, pair_at, all_pairs}
use Rattle.qh_blocks.specs.Blocks.{lane}
use Rattle.qh_blocks.specs.Numbers.{number_at}
use Rattle.qh_blocks.specs.Widths.{two_rows, width_after}
use Rattle.qh_blocks.proofs.WidthLemmas.{width_room}
use Rattle.qh_blocks.proofs.PartLemmas.{block_more}
use Rattle.qh_blocks.proofs.ValueLemmas.{pair_value}
use Rattle.qh_blocks.proofs.FitLemmas.{fit_pair, fit_all, fit_each, block_of_lanes, lane_is_within, read_number, read_block}
use Rattle.qh_blocks.proofs.fit.pairs_fit.Goals as goal

pub index_with_gap-low-requires-clause-small : goal.index_with_gap-low-requires-clause-small
index_with_gap-low-requires-clause-small g c =
    let len = c.requires.blocks in
    let test : c.loop-p.p < length c.args.v.now / 2 = c.loop-p-test.true in
    let below : c.loop-p.p < 2 ^ c.args.qubits = omega arith in
    few_numbers c.args.qubits c.loop-p.p c.requires.few below

pub block_at-y-requires : goal.block_at-y-requires
block_at-y-requires g c =
    let at = pair_at c.args.qubits c.args.q c.loop-p.p c.index_with_gap-low.result c.stride_of-stride.result (length c.args.v.now) c.requires.qubit c.requires.blocks c.loop-p-test.true c.index_with_gap-low.ensures c.stride_of-stride.ensures in
    let lb : c.index_with_gap-low.result < length c.args.v.now = subst (λ n. c.index_with_gap-low.result < n) (sym c.requires.blocks) at.low_below in
    let hb : (c.index_with_gap-low.result + c.stride_of-stride.result) < length c.args.v.now = subst (λ n. (c.index_with_gap-low.result + c.stride_of-stride.result) < n) (sym c.requires.blocks) at.high_below in
    hb

pub new_pair-pair-requires-clause-y_block : goal.new_pair-pair-requires-clause-y_block
new_pair-pair-requires-clause-y_block g c =
    let at = pair_at c.args.qubits c.args.q c.loop-p.p c.index_with_gap-low.result c.stride_of-stride.result (length c.args.v.now) c.requires.qubit c.requires.blocks c.loop-p-test.true c.index_with_gap-low.ensures c.stride_of-stride.ensures in
    let lb : c.index_with_gap-low.result < length c.args.v.now = subst (λ n. c.index_with_gap-low.result < n) (sym c.requires.blocks) at.low_below in
    let hb : (c.index_with_gap-low.result + c.stride_of-stride.result) < length c.args.v.now = subst (λ n. (c.index_with_gap-low.result + c.stride_of-stride.result) < n) (sym c.requires.blocks) at.high_below in
    read_block g.V.Vector.lanes g.V.Vector.PLACES c.args.bits c.args.v.now (c.index_with_gap-low.result + c.stride_of-stride.result) c.block_at-y.result hb c.requires.bounded c.block_at-y.ensures

pub is_within-requires-clause-block : goal.is_within-requires-clause-block
is_within-requires-clause-block g c =
    block_more g.V.Vector.lanes (2 ^ g.V.Vector.PLACES) (width_after (two_rows c.args.first c.args.second c.args.third c.args.fourth) c.args.bits) g.V.Vector.ROOM c.new_pair-pair.result.0 (width_room (two_rows c.args.first c.args.second c.args.third c.args.fourth) c.args.bits g.V.Vector.ROOM c.requires.room) c.new_pair-pair.ensures.low_block

pub is_within-requires-in-loop-p-clause-block : goal.is_within-requires-in-loop-p-clause-block
is_within-requires-in-loop-p-clause-block g c =
    block_more g.V.Vector.lanes (2 ^ g.V.Vector.PLACES) (width_after (two_rows c.args.first c.args.second c.args.third c.args.fourth) c.args.bits) g.V.Vector.ROOM c.new_pair-pair.result.1 (width_room (two_rows c.args.first c.args.second c.args.third c.args.fourth) c.args.bits g.V.Vector.ROOM c.requires.room) c.new_pair-pair.ensures.high_block

pub returns-then-not-is_within : goal.returns-then-not-is_within
returns-then-not-is_within g c = (
  λ t. search rules,
  λ all.
      let at = pair_at c.args.qubits c.args.q c.loop-p.p c.index_with_gap-low.result c.stride_of-stride.result (length c.args.v.now) c.requires.qubit c.requires.blocks c.loop-p-test.true c.index_with_gap-low.ensures c.stride_of-stride.ensures in
      let lb : c.index_with_gap-low.result < length c.args.v.now = subst (λ n. c.index_with_gap-low.result < n) (sym c.requires.blocks) at.low_below in
      let hb : (c.index_with_gap-low.result + c.stride_of-stride.result) < length c.args.v.now = subst (λ n. (c.index_with_gap-low.result + c.stride_of-stride.result) < n) (sym c.requires.blocks) at.high_below in
      let value = λ (r : ℕ) (lr : r < 2 ^ g.V.Vector.PLACES).
      pair_value g.V.Vector.PLACES (number_in (two_rows c.args.first c.args.second c.args.third c.args.fourth)) c.args.qubits c.args.q (number_at g.V.Vector.lanes g.V.Vector.PLACES c.args.v.now) c.index_with_gap-low.result (c.index_with_gap-low.result + c.stride_of-stride.result) (lane g.V.Vector.lanes r c.block_at-x.result) (lane g.V.Vector.lanes r c.block_at-y.result) _ r 0 (one_qubit c.args.qubits c.args.q c.requires.qubit) at.places (omega arith) lr
      (read_number g.V.Vector.lanes g.V.Vector.PLACES c.args.v.now c.index_with_gap-low.result c.block_at-x.result lb c.block_at-x.ensures r lr) (read_number g.V.Vector.lanes g.V.Vector.PLACES c.args.v.now (c.index_with_gap-low.result + c.stride_of-stride.result) c.block_at-y.result hb c.block_at-y.ensures r lr) (c.new_pair-pair.ensures.low r lr) in
      subst IsTrue c.if-not-is_within.true
      (c.is_within.ensures.1 (block_of_lanes g.V.Vector.lanes (2 ^ g.V.Vector.PLACES) c.args.limit (width_after (two_rows c.args.first c.args.second c.args.third c.args.fourth) c.args.bits) c.new_pair-pair.result.0 c.new_pair-pair.ensures.low_block
      (λ r lr. subst (IsWithin c.args.limit) (sym (value r lr)) (fit_each g.V.Vector.lanes g.V.Vector.PLACES (number_in (two_rows c.args.first c.args.second c.args.third c.args.fourth)) ((c.args.q + g.V.Vector.PLACES) ∷ []) c.args.limit c.args.v.now c.index_with_gap-low.result r lb lr all)))),
)

pub returns-then-not-is_within-2 : goal.returns-then-not-is_within-2
returns-then-not-is_within-2 g c = (
  λ t. search rules,
  λ all.
      let at = pair_at c.args.qubits c.args.q c.loop-p.p c.index_with_gap-low.result c.stride_of-stride.result (length c.args.v.now) c.requires.qubit c.requires.blocks c.loop-p-test.true c.index_with_gap-low.ensures c.stride_of-stride.ensures in
      let lb : c.index_with_gap-low.result < length c.args.v.now = subst (λ n. c.index_with_gap-low.result < n) (sym c.requires.blocks) at.low_below in
      let hb : (c.index_with_gap-low.result + c.stride_of-stride.result) < length c.args.v.now = subst (λ n. (c.index_with_gap-low.result + c.stride_of-stride.result) < n) (sym c.requires.blocks) at.high_below in
      let value = λ (r : ℕ) (lr : r < 2 ^ g.V.Vector.PLACES).
      pair_value g.V.Vector.PLACES (number_in (two_rows c.args.first c.args.second c.args.third c.args.fourth)) c.args.qubits c.args.q (number_at g.V.Vector.lanes g.V.Vector.PLACES c.args.v.now) c.index_with_gap-low.result (c.index_with_gap-low.result + c.stride_of-stride.result) (lane g.V.Vector.lanes r c.block_at-x.result) (lane g.V.Vector.lanes r c.block_at-y.result) _ r 1 (one_qubit c.args.qubits c.args.q c.requires.qubit) at.places (omega arith) lr
      (read_number g.V.Vector.lanes g.V.Vector.PLACES c.args.v.now c.index_with_gap-low.result c.block_at-x.result lb c.block_at-x.ensures r lr) (read_number g.V.Vector.lanes g.V.Vector.PLACES c.args.v.now (c.index_with_gap-low.result + c.stride_of-stride.result) c.block_at-y.result hb c.block_at-y.ensures r lr) (c.new_pair-pair.ensures.high r lr) in
      subst IsTrue c.if-not-is_within-2.true
      (c.is_within-in-loop-p.ensures.1 (block_of_lanes g.V.Vector.lanes (2 ^ g.V.Vector.PLACES) c.args.limit (width_after (two_rows c.args.first c.args.second c.args.third c.args.fourth) c.args.bits) c.new_pair-pair.result.1 c.new_pair-pair.ensures.high_block
      (λ r lr. subst (IsWithin c.args.limit) (sym (value r lr)) (fit_each g.V.Vector.lanes g.V.Vector.PLACES (number_in (two_rows c.args.first c.args.second c.args.third c.args.fourth)) ((c.args.q + g.V.Vector.PLACES) ∷ []) c.args.limit c.args.v.now (c.index_with_gap-low.result + c.stride_of-stride.result) r hb lr all)))),
)

pub loop-p-preserved : goal.loop-p-preserved
loop-p-preserved g c =
    let at = pair_at c.args.qubits c.args.q c.loop-p.p c.index_with_gap-low.result c.stride_of-stride.result (length c.args.v.now) c.requires.qubit c.requires.blocks c.loop-p-test.true c.index_with_gap-low.ensures c.stride_of-stride.ensures in
    let lb : c.index_with_gap-low.result < length c.args.v.now = subst (λ n. c.index_with_gap-low.result < n) (sym c.requires.blocks) at.low_below in
    let hb : (c.index_with_gap-low.result + c.stride_of-stride.result) < length c.args.v.now = subst (λ n. (c.index_with_gap-low.result + c.stride_of-stride.result) < n) (sym c.requires.blocks) at.high_below in
    let low_value = λ (r : ℕ) (lr : r < 2 ^ g.V.Vector.PLACES).
    pair_value g.V.Vector.PLACES (number_in (two_rows c.args.first c.args.second c.args.third c.args.fourth)) c.args.qubits c.args.q (number_at g.V.Vector.lanes g.V.Vector.PLACES c.args.v.now) c.index_with_gap-low.result (c.index_with_gap-low.result + c.stride_of-stride.result) (lane g.V.Vector.lanes r c.block_at-x.result) (lane g.V.Vector.lanes r c.block_at-y.result) _ r 0 (one_qubit c.args.qubits c.args.q c.requires.qubit) at.places (omega arith) lr
    (read_number g.V.Vector.lanes g.V.Vector.PLACES c.args.v.now c.index_with_gap-low.result c.block_at-x.result lb c.block_at-x.ensures r lr) (read_number g.V.Vector.lanes g.V.Vector.PLACES c.args.v.now (c.index_with_gap-low.result + c.stride_of-stride.result) c.block_at-y.result hb c.block_at-y.ensures r lr) (c.new_pair-pair.ensures.low r lr) in
    let high_value = λ (r : ℕ) (lr : r < 2 ^ g.V.Vector.PLACES).
    pair_value g.V.Vector.PLACES (number_in (two_rows c.args.first c.args.second c.args.third c.args.fourth)) c.args.qubits c.args.q (number_at g.V.Vector.lanes g.V.Vector.PLACES c.args.v.now) c.index_with_gap-low.result (c.index_with_gap-low.result + c.stride_of-stride.result) (lane g.V.Vector.lanes r c.block_at-x.result) (lane g.V.Vector.lanes r c.block_at-y.result) _ r 1 (one_qubit c.args.qubits c.args.q c.requires.qubit) at.places (omega arith) lr
    (read_number g.V.Vector.lanes g.V.Vector.PLACES c.args.v.now c.index_with_gap-low.result c.block_at-x.result lb c.block_at-x.ensures r lr) (read_number g.V.Vector.lanes g.V.Vector.PLACES c.args.v.now (c.index_with_gap-low.result + c.stride_of-stride.result) c.block_at-y.result hb c.block_at-y.ensures r lr) (c.new_pair-pair.ensures.high r lr) in
    fit_pair g.V.Vector.lanes g.V.Vector.PLACES (number_in (two_rows c.args.first c.args.second c.args.third c.args.fourth)) ((c.args.q + g.V.Vector.PLACES) ∷ []) c.args.qubits c.args.q c.args.limit c.args.v.now c.loop-p.p c.index_with_gap-low.result (c.index_with_gap-low.result + c.stride_of-stride.result) c.requires.qubit c.requires.blocks at c.loop-p.invariant
    (λ r lr. subst (IsWithin c.args.limit) (low_value r lr) (lane_is_within g.V.Vector.lanes (2 ^ g.V.Vector.PLACES) c.args.limit c.new_pair-pair.result.0 r lr (c.is_within.ensures.0 c.if-not-is_within.false)))
    (λ r lr. subst (IsWithin c.args.limit) (high_value r lr) (lane_is_within g.V.Vector.lanes (2 ^ g.V.Vector.PLACES) c.args.limit c.new_pair-pair.result.1 r lr (c.is_within-in-loop-p.ensures.0 c.if-not-is_within-2.false)))

pub returns : goal.returns
returns g c = (
  λ t. fit_all g.V.Vector.lanes g.V.Vector.PLACES (number_in (two_rows c.args.first c.args.second c.args.third c.args.fourth)) ((c.args.q + g.V.Vector.PLACES) ∷ []) (rank c.args.q) c.args.limit c.args.v.now c.loop-p.p (λ k l. all_pairs c.args.qubits c.args.q c.loop-p.p (length c.args.v.now) k c.requires.qubit c.requires.blocks c.loop-p-test.false l) c.loop-p.invariant,
  λ all. refl,
)
