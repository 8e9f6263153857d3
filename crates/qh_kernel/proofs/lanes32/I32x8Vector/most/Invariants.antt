use Rattle.qh_kernel.proofs.MostLemmas.{IsMost}
use Rattle.qh_kernel.proofs.lanes32.I32x8Vector.most.Given as goal

abbrev pub invariant-loop-r : goal.invariant-loop-r
invariant-loop-r l = IsMost 8 l.lanes l.r l.most
