use Rattle.std.proofs.Common.{◌≡◌, ◌++◌, ◌∷◌, decimal, take}
use Rattle.std.specs.List.{flat_map}
use Rattle.qh_circuit.specs.Spelling.{gate_line}
use Rattle.qh_circuit.proofs.print.print_circuit.Given as goal

abbrev pub invariant-loop-gate : goal.invariant-loop-gate
invariant-loop-gate l = l.text.items ≡ decimal l.fn.circuit.qubits ++ 10 ∷ flat_map gate_line (take l.gate-index l.gate-items)
