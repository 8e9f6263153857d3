use Rattle.std.proofs.Common.{take}
use Rattle.qh_planner.specs.Best.{IsBest}
use Rattle.qh_planner.proofs.choice.cheapest.Given as goal

abbrev pub invariant-loop-row : goal.invariant-loop-row
invariant-loop-row l = IsBest (take l.row-index l.table) l.best
