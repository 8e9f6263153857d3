use Rattle.std.proofs.Common.{[], ◌∷◌}
use Rattle.qh_ring.specs.Matrices.{number_in}
use Rattle.qh_blocks.specs.Widths.{two_rows}
use Rattle.qh_blocks.proofs.FitLemmas.{AreFit}
use Rattle.qh_blocks.proofs.fit.lanes_fit.Given as goal

abbrev pub invariant-loop-n : goal.invariant-loop-n
invariant-loop-n g l = AreFit g.V.Vector.lanes g.V.Vector.PLACES (number_in (two_rows l.first l.second l.third l.fourth)) (l.q ∷ []) (λ k. k) l.limit l.v l.n
