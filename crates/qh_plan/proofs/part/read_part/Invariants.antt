use Rattle.std.proofs.Common.{length}
use Rattle.qh_plan.proofs.ItemLemmas.{IsReadUpTo}
use Rattle.qh_plan.proofs.part.read_part.Given as goal

abbrev pub invariant-loop-number : goal.invariant-loop-number
invariant-loop-number l = IsReadUpTo l.text l.rest l.numbers.items

abbrev pub decreases-loop-number : goal.decreases-loop-number
decreases-loop-number l = length l.rest
