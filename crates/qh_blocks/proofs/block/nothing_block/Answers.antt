use Rattle.std.proofs.Common.{◌^◌}
use Rattle.qh_blocks.proofs.GroundLemmas.{zeros_below}
use Rattle.qh_blocks.proofs.block.nothing_block.Goals as goal

pub returns-clause-block : goal.returns-clause-block
returns-clause-block g c bits =
    let h = zeros_below (2 ^ g.V.Vector.PLACES) bits (g.V.Vector.lanes c.zero-zero.result) c.zero-zero.ensures in
    record { a = h; b = h; c = h; d = h }
