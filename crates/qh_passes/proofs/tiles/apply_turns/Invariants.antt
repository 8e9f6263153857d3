use Rattle.qh_passes.proofs.TileLemmas.{IsTurned}
use Rattle.qh_passes.proofs.tiles.apply_turns.Given as goal

abbrev pub invariant-loop-turn : goal.invariant-loop-turn
invariant-loop-turn g l = IsTurned g.V.Vector.lanes g.V.Vector.PLACES l.bits l.width l.run l.initial.v l.v l.turn-index
