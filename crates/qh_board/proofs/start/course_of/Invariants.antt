use Rattle.qh_board.proofs.StartLemmas.{IsStartedBelow}
use Rattle.qh_board.proofs.start.course_of.Given as goal

abbrev pub invariant-loop-range : goal.invariant-loop-range
invariant-loop-range g l = IsStartedBelow l.journal.table l.range l.course
