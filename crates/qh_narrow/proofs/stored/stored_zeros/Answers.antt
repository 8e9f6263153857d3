use Rattle.std.proofs.Common.{◌≡◌, ◌≤◌, ◌-◌, ◌^◌, ℕ, arith, sym, ap, ◌∙◌}
use Rattle.std.specs.Vec.{vec_capacity}
use Rattle.qh_narrow.proofs.StoredLemmas.{none_held, first_none}
use Rattle.qh_narrow.proofs.stored.stored_zeros.Goals as goal

pub returns-clause-held : goal.returns-clause-held
returns-clause-held g c =
    let v = c.in_ok-blocks.blocks in
    none_held g.V.Vector.lanes g.V.Vector.PLACES g.V.Vector.ROOM c.args.qubits 1 v.items c.requires (sym v.ok.0 ∙ c.in_ok-blocks.ensures.len)

pub returns-clause-space : goal.returns-clause-space
returns-clause-space g c =
    let count : c.block_count.result ≡ 2 ^ (c.args.qubits - g.V.Vector.PLACES) = c.block_count.ensures ∙ ap (λ (p : ℕ). 2 ^ (c.args.qubits - p)) c.PLACES.ensures in
    let room : c.block_count.result ≤ vec_capacity c.in_ok-blocks.blocks = c.in_ok-blocks.ensures.capacity in
    omega (arith, count, room)

pub returns-clause-numbers : goal.returns-clause-numbers
returns-clause-numbers g c =
    let v = c.in_ok-blocks.blocks in
    first_none g.V.Vector.lanes g.V.Vector.PLACES c.args.qubits v.items (sym v.ok.0 ∙ c.in_ok-blocks.ensures.len)
