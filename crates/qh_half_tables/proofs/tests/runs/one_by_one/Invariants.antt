use Rattle.std.proofs.Common.{◌≡◌, ◌<◌, ◌^◌, length}
use Rattle.std.specs.List.{All}
use Rattle.qh_blocks.specs.Blocks.{IsBlock}
use Rattle.qh_half_tables.proofs.tests.runs.one_by_one.Given as goal

abbrev pub invariant-loop-turn : goal.invariant-loop-turn
invariant-loop-turn g l = (length l.v ≡ length l.initial.v) × All (IsBlock g.V.Vector.lanes (2 ^ g.V.Vector.PLACES) l.bound) l.v × (l.bound < g.V.Vector.ROOM)
