use Rattle.std.proofs.Common.{◌≡◌, ℕ, ◌<◌, get_or}
use Rattle.qh_gates.specs.declared.gate.Gate.{Gate}
use Rattle.qh_plan.proofs.same.same_gates.Given as goal

abbrev pub invariant-loop-i : goal.invariant-loop-i
invariant-loop-i l = (k : ℕ) (d : Gate) → k < l.i → get_or l.one k d ≡ get_or l.two k d
