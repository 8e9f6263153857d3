use Rattle.qh_plan.proofs.DigitLemmas.{IsTaken}
use Rattle.qh_plan.proofs.paths.path_digits.Given as goal

abbrev pub invariant-loop-radix : goal.invariant-loop-radix
invariant-loop-radix l = IsTaken l.radices l.path l.radix-index l.rest l.count l.digits.items
