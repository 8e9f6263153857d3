use Rattle.std.proofs.Common.{◌≡◌}
use Rattle.qh_prefix.specs.Parts.{in_part, qubits_below}
use Rattle.qh_prefix.proofs.part.part_qubits.Given as goal

abbrev pub invariant-loop-qubit : goal.invariant-loop-qubit
invariant-loop-qubit l = l.qubits.items ≡ qubits_below (in_part l.part l.job) l.qubit
