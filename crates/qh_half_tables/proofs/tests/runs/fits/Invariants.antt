use Rattle.std.proofs.Common.{◌≡◌, ◌<◌, ◌+◌, take}
use Rattle.std.specs.List.{All}
use Rattle.qh_passes.specs.Turns.{IsTurnIn, width_after_turns}
use Rattle.qh_half_tables.proofs.tests.runs.fits.Given as goal

abbrev pub invariant-loop-turn : goal.invariant-loop-turn
invariant-loop-turn g l =
    All (IsTurnIn (l.tile + g.V.Vector.PLACES)) (take l.turn-index l.run) × (l.bound ≡ width_after_turns (take l.turn-index l.run) l.bits) × (l.bound < g.V.Vector.ROOM)
