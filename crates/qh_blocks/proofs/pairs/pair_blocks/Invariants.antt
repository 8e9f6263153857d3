use Rattle.std.proofs.Common.{◌+◌, [], ◌∷◌}
use Rattle.qh_ring.specs.Matrices.{number_in}
use Rattle.qh_kernel.proofs.PlaceLemmas.{rank}
use Rattle.qh_blocks.specs.Widths.{two_rows, width_after}
use Rattle.qh_blocks.proofs.PartLemmas.{IsPart}
use Rattle.qh_blocks.proofs.pairs.pair_blocks.Given as goal

abbrev pub invariant-loop-p : goal.invariant-loop-p
invariant-loop-p g l = IsPart g.V.Vector.lanes g.V.Vector.PLACES (number_in (two_rows l.first l.second l.third l.fourth)) ((l.q + g.V.Vector.PLACES) ∷ []) (rank l.q) (width_after (two_rows l.first l.second l.third l.fourth) l.bits) l.initial.v l.v l.p
