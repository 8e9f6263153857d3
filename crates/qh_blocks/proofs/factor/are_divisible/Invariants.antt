use Rattle.std.proofs.Common.{◌^◌}
use Rattle.qh_blocks.proofs.FactorLemmas.{AreDivisible}
use Rattle.qh_blocks.proofs.factor.are_divisible.Given as goal

abbrev pub invariant-loop-k : goal.invariant-loop-k
invariant-loop-k g l = AreDivisible g.V.Vector.lanes (2 ^ g.V.Vector.PLACES) l.roots l.v l.k
