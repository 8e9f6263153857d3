use Rattle.std.proofs.Common.{arith}
use Rattle.std.specs.Int.{w16}
use Rattle.qh_kernel.proofs.BoundLemmas.{negations_below}
use Rattle.qh_kernel.proofs.WordLemmas.{negs, negations_length, negations_lane}
use Rattle.qh_kernel.proofs.lanes16.I16x16Vector.negated.Goals as goal

pub overflow_sub-result : goal.overflow_sub-result
overflow_sub-result c = negs w16 16 c.args._bits c.args.self (omega (arith, c.requires.room)) c.requires.below

pub returns-clause-lanes : goal.returns-clause-lanes
returns-clause-lanes c = negations_lane w16 16 c.args._bits c.args.self (omega (arith, c.requires.room)) c.requires.below

pub returns-clause-below : goal.returns-clause-below
returns-clause-below c = negations_below 16 c.args._bits c.args.self _ (negations_length w16 16 c.args.self c.requires.below.len) c.requires.below (returns-clause-lanes c)
