use Rattle.std.proofs.Common.{◌≡◌}
use Rattle.qh_plan.specs.Plans.{rising}
use Rattle.qh_plan.proofs.cut.rising.Given as goal

abbrev pub invariant-loop-qubit : goal.invariant-loop-qubit
invariant-loop-qubit l = l.part.items ≡ rising l.qubit-counter l.items
