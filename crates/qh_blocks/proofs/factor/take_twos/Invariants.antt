use Rattle.qh_blocks.proofs.FactorLemmas.{AreTaken}
use Rattle.qh_blocks.proofs.factor.take_twos.Given as goal

abbrev pub invariant-loop-count : goal.invariant-loop-count
invariant-loop-count g l = AreTaken g.V.Vector.lanes g.V.Vector.PLACES l.bits l.most l.initial.v l.v l.count
