use Rattle.std.proofs.Common.{◌<◌, ◌-◌, ◌^◌, ℕ, arith, subst, sym}
use Rattle.std.specs.List.{All}
use Rattle.qh_ring.specs.Numbers.{IsWithin}
use Rattle.qh_blocks.specs.Blocks.{IsBlock}
use Rattle.qh_blocks.specs.Widths.{width_after}
use Rattle.qh_narrow.specs.Columns.{first_numbers, AreKept}
use Rattle.qh_narrow.proofs.WithinLemmas.{first_below, blocks_within}
use Rattle.qh_narrow.proofs.blocks.turn1.Goals as goal

pub returns-then-new-room-clause-kept : goal.returns-then-new-room-clause-kept
returns-then-new-room-clause-kept g c = record {
  blocks = c.pass1.ensures.blocks;
  room_left = subst (λ (n : ℕ). c.width_of-new.result < n) c.ROOM-room.ensures c.if-new-room.true;
  bounded = subst (λ (n : ℕ). All (IsBlock g.V.Vector.lanes (2 ^ g.V.Vector.PLACES) n) c.pass1.new.v) (sym c.width_of-new.ensures) c.pass1.ensures.bounded;
}

pub returns-then-new-room-clause-within : goal.returns-then-new-room-clause-within
returns-then-new-room-clause-within g c =
    let room : c.width_of-new.result < g.V.Vector.ROOM = subst (λ (n : ℕ). c.width_of-new.result < n) c.ROOM-room.ensures c.if-new-room.true in
    first_below g.V.Vector.lanes g.V.Vector.PLACES c.args.qubits (width_after c.args.m.now.rows c.known_bits-known.result) g.V.Vector.ROOM c.pass1.new.v
    (subst (λ (n : ℕ). n < g.V.Vector.ROOM) c.width_of-new.ensures room) c.pass1.ensures.blocks c.pass1.ensures.bounded

pub returns-clause-kept : goal.returns-clause-kept
returns-clause-kept g c =
    let some = g.met.V.Vector.some_room in
    let first : All (IsWithin (g.V.Vector.ROOM - 1)) (first_numbers g.V.Vector.lanes g.V.Vector.PLACES c.args.qubits c.pass1-2.new.v) =
    subst (All (IsWithin (g.V.Vector.ROOM - 1))) (sym c.pass1-2.ensures.exact) (c.fits1.ensures.0 c.if-not-fits1.false) in
    subst (λ (n : ℕ). AreKept g.V.Vector.lanes g.V.Vector.PLACES g.V.Vector.ROOM c.args.qubits (n - 1) c.pass1-2.new.v) (sym c.ROOM-room.ensures) (record {
      blocks = c.pass1-2.ensures.blocks;
      room_left = omega (arith, some);
      bounded = blocks_within g.V.Vector.lanes g.V.Vector.PLACES c.args.qubits (width_after c.args.m.now.rows c.known_bits-known.result) (g.V.Vector.ROOM - 1) c.pass1-2.new.v
          c.pass1-2.ensures.blocks c.pass1-2.ensures.bounded first;
    })
