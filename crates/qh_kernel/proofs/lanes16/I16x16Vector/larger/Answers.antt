use Rattle.std.proofs.Common.{arith}
use Rattle.std.specs.Int.{w16}
use Rattle.qh_kernel.proofs.WordLemmas.{negs}
use Rattle.qh_kernel.proofs.LargerLemmas.{larger_above, first_below, second_below}
use Rattle.qh_kernel.proofs.lanes16.I16x16Vector.larger.Goals as goal

pub overflow_sub-result : goal.overflow_sub-result
overflow_sub-result c = negs w16 16 15 c.args.self (omega arith) c.requires.below

pub overflow_sub-result-2 : goal.overflow_sub-result-2
overflow_sub-result-2 c = negs w16 16 15 c.args.other (omega arith) c.requires.other

pub returns-clause-above : goal.returns-clause-above
returns-clause-above c = larger_above w16 16 c.args.self c.args.other c.requires.below c.requires.other

pub returns-clause-self_below : goal.returns-clause-self_below
returns-clause-self_below c = first_below w16 16 c.args.self c.args.other c.requires.below c.requires.other

pub returns-clause-other_below : goal.returns-clause-other_below
returns-clause-other_below c = second_below w16 16 c.args.self c.args.other c.requires.below c.requires.other
