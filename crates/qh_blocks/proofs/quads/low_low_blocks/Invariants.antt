use Rattle.std.proofs.Common.{[], ◌∷◌}
use Rattle.qh_ring.specs.Matrices.{number_in}
use Rattle.qh_blocks.proofs.PartLemmas.{IsPart}
use Rattle.qh_blocks.proofs.quads.low_low_blocks.Given as goal

abbrev pub invariant-loop-n : goal.invariant-loop-n
invariant-loop-n g l = IsPart g.V.Vector.lanes g.V.Vector.PLACES (number_in l.m.rows) (l.q0 ∷ l.q1 ∷ []) (λ k. k) l.bits l.initial.v l.v l.n
