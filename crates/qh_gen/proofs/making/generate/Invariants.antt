use Rattle.std.proofs.Common.{◌≡◌, ◌+◌, ◌-◌, ◌*◌, ◌++◌}
use Rattle.qh_gen.specs.Grids.{gates_between, hadamards_at, generated_gates}
use Rattle.qh_gen.proofs.making.generate.Given as goal

abbrev pub invariant-loop-time : goal.invariant-loop-time
invariant-loop-time l = record {
  qubits : l.circuit.qubits ≡ l.rows * l.cols;
  gates : l.circuit.gates ++ (gates_between l.rows l.cols (l.depth + 1 - l.time) l.time l.state ++ hadamards_at l.rows l.cols (l.depth + 1))
      ≡ generated_gates l.start l.rows l.cols l.depth;
}
