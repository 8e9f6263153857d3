use Rattle.std.proofs.Common.{[], ◌∷◌}
use Rattle.qh_ring.specs.Matrices.{number_in}
use Rattle.qh_kernel.proofs.PlaceLemmas.{rank}
use Rattle.qh_kernel.proofs.DoneLemmas.{IsDone}
use Rattle.qh_kernel.proofs.kernels.move_pairs.Given as goal

abbrev pub invariant-loop-p : goal.invariant-loop-p
invariant-loop-p l = IsDone (number_in l.m.rows) (l.q ∷ []) (rank l.q) l.initial.v l.v l.p
