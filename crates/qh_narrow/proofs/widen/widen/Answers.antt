use Rattle.std.proofs.Common.{◌≡◌, ◌≤◌, ◌<◌, ◌+◌, ◌-◌, ◌*◌, ◌/◌, ◌%◌, ◌^◌, ℕ, length, get_or, arith, ap, sym, subst, ◌∙◌}
use Rattle.std.proofs.Math.Path.{ap₂}
use Rattle.qh_blocks.specs.Blocks.{lane}
use Rattle.qh_narrow.proofs.WidenLemmas.{widened_none, widened_more, widened_blocks, widened_numbers, widened_bounded, narrower_below, first_room, split_sum, split_few, item_below}
use Rattle.qh_narrow.proofs.widen.widen.Goals as goal

pub loop-k-init : goal.loop-k-init
loop-k-init g c = widened_none g.N.Vector.lanes g.W.Vector.lanes g.N.Vector.PLACES g.W.Vector.PLACES c.args.narrow.now c.args.wide.now

pub narrower_index-at-requires : goal.narrower_index-at-requires
narrower_index-at-requires g c =
    let split = ap₂ (λ (m n : ℕ). m - n) c.PLACES-narrow_places.ensures c.PLACES-places.ensures in
    subst (λ (n : ℕ). n ≤ 4) (sym split) (split_few g.N.Vector.PLACES g.W.Vector.PLACES g.met.N.Vector.few_places)

pub first_lane-from-requires-clause-split : goal.first_lane-from-requires-clause-split
first_lane-from-requires-clause-split g c =
    let split = ap₂ (λ (m n : ℕ). m - n) c.PLACES-narrow_places.ensures c.PLACES-places.ensures in
    subst (λ (n : ℕ). n ≤ 4) (sym split) (split_few g.N.Vector.PLACES g.W.Vector.PLACES g.met.N.Vector.few_places)

pub first_lane-from-requires-clause-places : goal.first_lane-from-requires-clause-places
first_lane-from-requires-clause-places g c = subst (λ (n : ℕ). n ≤ 4) (sym c.PLACES-places.ensures) g.met.W.Vector.few_places

pub bounds-narrow-at : goal.bounds-narrow-at
bounds-narrow-at g c =
    let np = g.N.Vector.PLACES in
    let wp = g.W.Vector.PLACES in
    let at : c.narrower_index-at.result ≡ c.loop-k.k / 2 ^ (np - wp) = c.narrower_index-at.ensures ∙ ap (λ (n : ℕ). c.loop-k.k / 2 ^ n) (ap₂ (λ (m n : ℕ). m - n) c.PLACES-narrow_places.ensures c.PLACES-places.ensures) in
    let here : c.loop-k.k < 2 ^ (c.args.qubits - wp) = subst (λ (n : ℕ). c.loop-k.k < n) c.requires.wide c.loop-k-test.true in
    let below = narrower_below c.loop-k.k c.args.qubits (np - wp) wp np (split_sum np wp c.requires.places) here in
    subst (λ (n : ℕ). n < length c.args.narrow.now) (sym at) (subst (λ (n : ℕ). c.loop-k.k / 2 ^ (np - wp) < n) (sym c.requires.blocks.len) below)

pub offset_bounds-narrow-at : goal.offset_bounds-narrow-at
offset_bounds-narrow-at g c =
    let l : c.narrower_index-at.result < length c.args.narrow.now = bounds-narrow-at g c in
    omega (arith, l)

pub wider_block-requires-clause-from : goal.wider_block-requires-clause-from
wider_block-requires-clause-from g c =
    let np = g.N.Vector.PLACES in
    let wp = g.W.Vector.PLACES in
    let split = ap₂ (λ (m n : ℕ). m - n) c.PLACES-narrow_places.ensures c.PLACES-places.ensures in
    let from : c.first_lane-from.result ≡ c.loop-k.k % 2 ^ (np - wp) * 2 ^ wp = c.first_lane-from.ensures ∙ ap₂ (λ (m n : ℕ). c.loop-k.k % 2 ^ m * 2 ^ n) split c.PLACES-places.ensures in
    subst (λ (n : ℕ). n + 2 ^ wp ≤ 2 ^ np) (sym from) (first_room c.loop-k.k (np - wp) wp np (split_sum np wp c.requires.places))

pub wider_block-requires-clause-block : goal.wider_block-requires-clause-block
wider_block-requires-clause-block g c =
    item_below g.N.Vector.lanes (2 ^ g.N.Vector.PLACES) g.N.Vector.ROOM c.narrower_index-at.result c.args.narrow.now c.index-narrow-at.result c.requires.bounded (bounds-narrow-at g c.before) c.index-narrow-at.is

pub loop-k-preserved : goal.loop-k-preserved
loop-k-preserved g c =
    let np = g.N.Vector.PLACES in
    let wp = g.W.Vector.PLACES in
    let split = ap₂ (λ (m n : ℕ). m - n) c.PLACES-narrow_places.ensures c.PLACES-places.ensures in
    let at : c.narrower_index-at.result ≡ c.loop-k.k / 2 ^ (np - wp) = c.narrower_index-at.ensures ∙ ap (λ (n : ℕ). c.loop-k.k / 2 ^ n) split in
    let from : c.first_lane-from.result ≡ c.loop-k.k % 2 ^ (np - wp) * 2 ^ wp = c.first_lane-from.ensures ∙ ap₂ (λ (m n : ℕ). c.loop-k.k % 2 ^ m * 2 ^ n) split c.PLACES-places.ensures in
    let here : c.loop-k.k < 2 ^ (c.args.qubits - wp) = subst (λ (n : ℕ). c.loop-k.k < n) c.requires.wide c.loop-k-test.true in
    let below = narrower_below c.loop-k.k c.args.qubits (np - wp) wp np (split_sum np wp c.requires.places) here in
    widened_more g.N.Vector.lanes g.W.Vector.lanes np wp (np - wp) c.args.narrow.now c.loop-k.wide c.loop-k.k c.index-narrow-at.result c.wider_block.result (split_sum np wp c.requires.places)
    (subst (λ (n : ℕ). c.loop-k.k < n) (sym c.loop-k.auto.wide) c.loop-k-test.true)
    (subst (λ (n : ℕ). c.loop-k.k / 2 ^ (np - wp) < n) (sym c.requires.blocks.len) below)
    (subst (λ (n : ℕ). c.index-narrow-at.result ≡ get_or c.args.narrow.now n c.index-narrow-at.result) at c.index-narrow-at.is)
    (λ r l. c.wider_block.ensures.lanes r l ∙ ap (λ (n : ℕ). lane g.N.Vector.lanes (n + r) c.index-narrow-at.result) from)
    c.wider_block.ensures.block c.loop-k.invariant

pub returns-clause-blocks : goal.returns-clause-blocks
returns-clause-blocks g c =
    widened_blocks g.N.Vector.lanes g.W.Vector.lanes g.N.Vector.PLACES g.W.Vector.PLACES c.args.qubits c.args.narrow.now c.loop-k.wide c.loop-k.k c.requires.blocks (c.loop-k.auto.wide ∙ c.requires.wide) (subst (λ (n : ℕ). n ≤ c.loop-k.k) (sym c.loop-k.auto.wide) c.loop-k-test.false) c.loop-k.invariant

pub returns-clause-bounded : goal.returns-clause-bounded
returns-clause-bounded g c bits h =
    widened_bounded g.N.Vector.lanes g.W.Vector.lanes g.N.Vector.PLACES g.W.Vector.PLACES bits c.args.narrow.now c.loop-k.wide c.loop-k.k (subst (λ (n : ℕ). n ≤ c.loop-k.k) (sym c.loop-k.auto.wide) c.loop-k-test.false) c.loop-k.invariant h

pub returns-clause-numbers : goal.returns-clause-numbers
returns-clause-numbers g c =
    widened_numbers g.N.Vector.lanes g.W.Vector.lanes g.N.Vector.PLACES g.W.Vector.PLACES c.args.qubits c.args.narrow.now c.loop-k.wide c.loop-k.k c.requires.blocks (c.loop-k.auto.wide ∙ c.requires.wide) (subst (λ (n : ℕ). n ≤ c.loop-k.k) (sym c.loop-k.auto.wide) c.loop-k-test.false) c.loop-k.invariant
