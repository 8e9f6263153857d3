use Rattle.qh_board.proofs.StartLemmas.{IsTotalBelow}
use Rattle.qh_board.proofs.start.total_of.Given as goal

abbrev pub invariant-loop-range : goal.invariant-loop-range
invariant-loop-range g l = IsTotalBelow l.job l.journal.table l.range l.total
