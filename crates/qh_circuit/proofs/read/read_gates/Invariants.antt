use Rattle.qh_circuit.proofs.ReadingLemmas.{Reading}
use Rattle.qh_circuit.proofs.read.read_gates.Given as goal

abbrev pub invariant-loop-line : goal.invariant-loop-line
invariant-loop-line l = Reading l.fn.start.qubits l.max_time l.fn.lines l.line-iterator l.latest l.circuit
