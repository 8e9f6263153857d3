use Rattle.std.proofs.Common.{◌^◌}
use Rattle.qh_blocks.proofs.FactorLemmas.{IsDivided}
use Rattle.qh_blocks.proofs.factor.divide.Given as goal

abbrev pub invariant-loop-k : goal.invariant-loop-k
invariant-loop-k g l = IsDivided g.V.Vector.lanes (2 ^ g.V.Vector.PLACES) l.roots l.bits l.initial.v l.v l.k
