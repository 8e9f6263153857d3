use Rattle.qh_board.proofs.PickLemmas.{IsTurning}
use Rattle.qh_board.proofs.delivering.acknowledge_all.Given as goal

abbrev pub invariant-loop-entry : goal.invariant-loop-entry
invariant-loop-entry g l = IsTurning l.job l.journal.table l.entries l.entry-index l.fn.course l.course l.total l.fn.tally l.tally l.fn.share l.share
