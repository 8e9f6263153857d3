use Rattle.std.proofs.Common.{◌≤◌, ◌^◌, arith}
use Rattle.qh_blocks.proofs.PartLemmas.{blocks_more}
use Rattle.qh_narrow.proofs.blocks.known_bits.Goals as goal

pub returns : goal.returns
returns g c =
    let room = c.requires.kept.room_left in
    let least : c.bits_of.result ≤ c.args.bits = c.bits_of.ensures.least c.args.bits c.requires.kept.bounded in
    record {
      blocks = c.requires.kept.blocks;
      room_left = omega (arith, room, least);
      bounded = c.bits_of.ensures.bounded;
    }

pub bits_of-requires : goal.bits_of-requires
bits_of-requires g c =
    let room = c.requires.kept.room_left in
    blocks_more g.V.Vector.lanes (2 ^ g.V.Vector.PLACES) c.args.bits g.V.Vector.ROOM c.args.v.now (omega (arith, room)) c.requires.kept.bounded
