use Rattle.std.proofs.Common.{◌+◌, [], ◌∷◌}
use Rattle.qh_ring.specs.Matrices.{number_in}
use Rattle.qh_kernel.proofs.PlaceLemmas.{rank}
use Rattle.qh_blocks.specs.Widths.{two_rows}
use Rattle.qh_blocks.proofs.FitLemmas.{AreFit}
use Rattle.qh_blocks.proofs.fit.pairs_fit.Given as goal

abbrev pub invariant-loop-p : goal.invariant-loop-p
invariant-loop-p g l = AreFit g.V.Vector.lanes g.V.Vector.PLACES (number_in (two_rows l.first l.second l.third l.fourth)) ((l.q + g.V.Vector.PLACES) ∷ []) (rank l.q) l.limit l.v l.p
