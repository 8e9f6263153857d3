use Rattle.std.proofs.Common.{◌≡◌, ◌+◌, ◌-◌, ◌^◌, ℕ, length, subst, ap, ◌∙◌, arith}
use Rattle.qh_ring.specs.States.{ground, listed}
use Rattle.qh_blocks.specs.Numbers.{numbers}
use Rattle.qh_narrow.proofs.BlocksLemmas.{first_ground, blocks_ground}
use Rattle.qh_narrow.proofs.blocks.ground_state.Goals as goal

pub returns-clause-kept : goal.returns-clause-kept
returns-clause-kept g c =
    let some = g.met.V.Vector.some_room in
    let high = c.high_qubits.ensures ∙ ap (λ (p : ℕ). c.args.qubits - p) c.PLACES.ensures in
    record {
      blocks = blocks_ground g.V.Vector.lanes g.V.Vector.PLACES c.args.qubits c.in_ok-blocks.blocks.items c.requires
          (subst (λ (n : ℕ). length c.in_ok-blocks.blocks.items ≡ 2 ^ n) high c.in_ok-blocks.ensures.len)
          (subst (λ (n : ℕ). numbers g.V.Vector.lanes g.V.Vector.PLACES c.in_ok-blocks.blocks.items ≡ listed (n + g.V.Vector.PLACES) ground) high c.in_ok-blocks.ensures.numbers);
      room_left = omega (arith, some);
      bounded = c.in_ok-blocks.ensures.bounded;
    }

pub returns-clause-numbers : goal.returns-clause-numbers
returns-clause-numbers g c =
    let high = c.high_qubits.ensures ∙ ap (λ (p : ℕ). c.args.qubits - p) c.PLACES.ensures in
    first_ground g.V.Vector.lanes g.V.Vector.PLACES c.args.qubits c.in_ok-blocks.blocks.items
    (subst (λ (n : ℕ). numbers g.V.Vector.lanes g.V.Vector.PLACES c.in_ok-blocks.blocks.items ≡ listed (n + g.V.Vector.PLACES) ground) high c.in_ok-blocks.ensures.numbers)
