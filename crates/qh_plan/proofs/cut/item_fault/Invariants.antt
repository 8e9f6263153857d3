use Rattle.std.proofs.Common.{◌≡◌, [], take, drop}
use Rattle.qh_plan.specs.Plans.{item_fault}
use Rattle.qh_plan.proofs.cut.item_fault.Given as goal

abbrev pub invariant-loop-i : goal.invariant-loop-i
invariant-loop-i l = item_fault l.qubits (take l.i l.items) (drop l.i l.items) ≡ item_fault l.qubits [] l.items
