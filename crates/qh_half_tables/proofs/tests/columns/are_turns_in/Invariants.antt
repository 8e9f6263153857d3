use Rattle.std.proofs.Common.{take}
use Rattle.std.specs.List.{All}
use Rattle.qh_passes.specs.Turns.{IsTurnIn}
use Rattle.qh_half_tables.proofs.tests.columns.are_turns_in.Given as goal

abbrev pub invariant-loop-turn : goal.invariant-loop-turn
invariant-loop-turn l = All (IsTurnIn l.limit) (take l.turn-index l.run)
