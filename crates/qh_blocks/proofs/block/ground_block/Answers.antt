use Rattle.std.proofs.Common.{arith, ◌≤◌, ◌^◌}
use Rattle.std.proofs.Math.Pow.{pow_mono}
use Rattle.qh_blocks.proofs.GroundLemmas.{zeros_below}
use Rattle.qh_blocks.proofs.block.ground_block.Goals as goal

pub with-requires-clause-below : goal.with-requires-clause-below
with-requires-clause-below g c = zeros_below (2 ^ g.V.Vector.PLACES) g.V.Vector.ROOM _ c.zero-zero.ensures

pub with-requires-clause-number : goal.with-requires-clause-number
with-requires-clause-number g c =
    let some = g.met.V.Vector.some_room in
    let p : 2 ^ 8 ≤ 2 ^ g.V.Vector.ROOM = pow_mono some in
    omega arith
