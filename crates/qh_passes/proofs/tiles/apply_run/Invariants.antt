use Rattle.std.proofs.Common.{◌*◌, ◌^◌}
use Rattle.qh_passes.specs.Turns.{width_after_turns}
use Rattle.qh_passes.proofs.TileLemmas.{IsTiled}
use Rattle.qh_passes.proofs.tiles.apply_run.Given as goal

abbrev pub invariant-loop-number : goal.invariant-loop-number
invariant-loop-number g l = IsTiled g.V.Vector.lanes g.V.Vector.PLACES (width_after_turns l.run l.bits) l.run l.initial.v l.v (l.number * 2 ^ l.tile)
