use Rattle.qh_kernel.proofs.MostLemmas.{IsMost}
use Rattle.qh_kernel.proofs.lanes16.I16x16Vector.most.Given as goal

abbrev pub invariant-loop-r : goal.invariant-loop-r
invariant-loop-r l = IsMost 16 l.lanes l.r l.most
