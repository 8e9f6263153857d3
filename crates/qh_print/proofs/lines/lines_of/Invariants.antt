use Rattle.std.proofs.Common.{take}
use Rattle.qh_print.specs.Output.{IsText}
use Rattle.qh_print.proofs.lines.lines_of.Given as goal

abbrev pub invariant-loop-i : goal.invariant-loop-i
invariant-loop-i l = IsText l.qubits l.weight (take l.i l.indices) (take l.i l.values) l.text.items
