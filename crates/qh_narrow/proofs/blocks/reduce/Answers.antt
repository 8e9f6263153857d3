use Rattle.std.proofs.Common.{◌≤◌, ◌^◌, arith}
use Rattle.qh_blocks.proofs.PartLemmas.{blocks_more}
use Rattle.qh_narrow.specs.Columns.{first_numbers}
use Rattle.qh_narrow.proofs.FactorLemmas.{no_factor, factor_first, factor_blocks}
use Rattle.qh_narrow.proofs.blocks.reduce.Goals as goal

pub returns-then-width_of-ROOM-clause-numbers : goal.returns-then-width_of-ROOM-clause-numbers
returns-then-width_of-ROOM-clause-numbers g c = no_factor (first_numbers g.V.Vector.lanes g.V.Vector.PLACES c.args.qubits c.args.v.now)

pub bits_of-known-requires : goal.bits_of-known-requires
bits_of-known-requires g c =
    let room = c.requires.kept.room_left in
    blocks_more g.V.Vector.lanes (2 ^ g.V.Vector.PLACES) c.args.bits g.V.Vector.ROOM c.args.v.now (omega (arith, room)) c.requires.kept.bounded

pub returns-then-known-ROOM-clause-numbers : goal.returns-then-known-ROOM-clause-numbers
returns-then-known-ROOM-clause-numbers g c = no_factor (first_numbers g.V.Vector.lanes g.V.Vector.PLACES c.args.qubits c.args.v.now)

pub take_roots-taken-requires-clause-room : goal.take_roots-taken-requires-clause-room
take_roots-taken-requires-clause-room g c =
    let room = c.requires.kept.room_left in
    let least : c.bits_of-known.result ≤ c.args.bits = c.bits_of-known.ensures.least c.args.bits c.requires.kept.bounded in
    omega (arith, room, least)

pub bits_of-requires : goal.bits_of-requires
bits_of-requires g c =
    let room = c.requires.kept.room_left in
    let least : c.bits_of-known.result ≤ c.args.bits = c.bits_of-known.ensures.least c.args.bits c.requires.kept.bounded in
    blocks_more g.V.Vector.lanes (2 ^ g.V.Vector.PLACES) c.bits_of-known.result g.V.Vector.ROOM c.take_roots-taken.new.v (omega (arith, room, least)) c.take_roots-taken.ensures.bounded

pub returns-clause-kept : goal.returns-clause-kept
returns-clause-kept g c =
    let room = c.requires.kept.room_left in
    let least : c.bits_of-known.result ≤ c.args.bits = c.bits_of-known.ensures.least c.args.bits c.requires.kept.bounded in
    let less : c.bits_of.result ≤ c.bits_of-known.result = c.bits_of.ensures.least c.bits_of-known.result c.take_roots-taken.ensures.bounded in
    record {
      blocks = factor_blocks g.V.Vector.lanes g.V.Vector.PLACES c.args.qubits c.take_roots-taken.result c.args.v.now c.take_roots-taken.new.v c.requires.kept.blocks c.take_roots-taken.ensures.factor;
      room_left = omega (arith, room, least, less);
      bounded = c.bits_of.ensures.bounded;
    }

pub returns-clause-numbers : goal.returns-clause-numbers
returns-clause-numbers g c = factor_first g.V.Vector.lanes g.V.Vector.PLACES c.args.qubits c.take_roots-taken.result c.args.v.now c.take_roots-taken.new.v c.take_roots-taken.ensures.factor
