use Rattle.std.proofs.Common.{◌+◌, [], ◌∷◌}
use Rattle.qh_ring.specs.Matrices.{number_in}
use Rattle.qh_kernel.proofs.PlaceLemmas.{rank}
use Rattle.qh_blocks.proofs.PartLemmas.{IsPart}
use Rattle.qh_blocks.proofs.quads.high_low_blocks.Given as goal

abbrev pub invariant-loop-p : goal.invariant-loop-p
invariant-loop-p g l = IsPart g.V.Vector.lanes g.V.Vector.PLACES (number_in l.m.rows) ((l.q0 + g.V.Vector.PLACES) ∷ l.q1 ∷ []) (rank l.q0) l.bits l.initial.v l.v l.p
