use Rattle.std.proofs.Common.{◌/◌, ◌%◌, ◌^◌, ◌<◌, ◌-◌, ap, sym, subst, ◌∙◌}
use Rattle.std.proofs.lemmas.Nat.{pow_pos, mod_below}
use Rattle.qh_ring.specs.Numbers.{IsWithin}
use Rattle.qh_narrow.proofs.WithinLemmas.{number_here, number_past, block_room, lane_here, within_nothing}
use Rattle.qh_narrow.proofs.number.number_of.Goals as goal

pub returns-then-k-count-clause-value : goal.returns-then-k-count-clause-value
returns-then-k-count-clause-value g c =
    number_past g.V.Vector.lanes g.V.Vector.PLACES c.args.qubits c.args.v.now c.args.index c.block_index-k.result c.requires.index c.if-k-count.true (c.block_index-k.ensures ∙ ap (λ n. c.args.index / 2 ^ n) c.PLACES-places.ensures)

pub returns-then-k-count-clause-within : goal.returns-then-k-count-clause-within
returns-then-k-count-clause-within g c = within_nothing (g.V.Vector.ROOM - 1)

pub lane_number-requires-clause-block : goal.lane_number-requires-clause-block
lane_number-requires-clause-block g c =
    block_room g.V.Vector.lanes (2 ^ g.V.Vector.PLACES) g.V.Vector.ROOM c.args.v.now c.block_index-k.result c.index-v-k.result c.requires.bounded c.if-k-count.false c.index-v-k.is

pub returns-clause-value : goal.returns-clause-value
returns-clause-value g c =
    c.lane_number.ensures
    ∙ number_here g.V.Vector.lanes g.V.Vector.PLACES c.args.qubits c.args.v.now c.args.index c.block_index-k.result c.lane_index-r.result c.index-v-k.result c.requires.index c.if-k-count.false
    (c.block_index-k.ensures ∙ ap (λ n. c.args.index / 2 ^ n) c.PLACES-places.ensures) (c.lane_index-r.ensures ∙ ap (λ n. c.args.index % 2 ^ n) c.PLACES-places.ensures) c.index-v-k.is

pub returns-clause-within : goal.returns-clause-within
returns-clause-within g c =
    let lane_below = subst (λ n. n < 2 ^ g.V.Vector.PLACES) (sym (c.lane_index-r.ensures ∙ ap (λ n. c.args.index % 2 ^ n) c.PLACES-places.ensures))
    (mod_below c.args.index (2 ^ g.V.Vector.PLACES) (pow_pos g.V.Vector.PLACES)) in
    subst (IsWithin (g.V.Vector.ROOM - 1)) (sym c.lane_number.ensures)
    (lane_here g.V.Vector.lanes (2 ^ g.V.Vector.PLACES) (g.V.Vector.ROOM - 1) c.args.v.now c.block_index-k.result c.lane_index-r.result c.index-v-k.result c.requires.bounded c.if-k-count.false lane_below c.index-v-k.is)
