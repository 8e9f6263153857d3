use Rattle.qh_uncut.proofs.StateLemmas.{IsDone}
use Rattle.qh_uncut.proofs.narrow.evolve_narrow.Given as goal

abbrev pub invariant-loop-i : goal.invariant-loop-i
invariant-loop-i g l = IsDone l.circuit l.i l.state
