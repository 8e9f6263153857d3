use Rattle.qh_plan.proofs.DigitLemmas.{IsRead}
use Rattle.qh_plan.proofs.paths.path_number.Given as goal

abbrev pub invariant-loop-i : goal.invariant-loop-i
invariant-loop-i l = IsRead l.radices l.digits l.i l.number
