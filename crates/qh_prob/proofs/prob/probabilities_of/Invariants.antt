use Rattle.std.proofs.Common.{◌≡◌, map, take}
use Rattle.qh_prob.specs.Probability.{probability}
use Rattle.qh_prob.proofs.prob.probabilities_of.Given as goal

abbrev pub invariant-loop-z : goal.invariant-loop-z
invariant-loop-z l = l.probs.items ≡ map probability (take l.z-index l.z-items)
