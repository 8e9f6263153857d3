use Rattle.std.proofs.Common.{◌≡◌, ◌-◌, ◌*◌, ◌++◌}
use Rattle.std.specs.List.{range_with_len}
use Rattle.qh_gen.specs.Grids.{pairs_among, pairs_at}
use Rattle.qh_gen.proofs.layer.push_pairs.Given as goal

abbrev pub invariant-loop-qubit : goal.invariant-loop-qubit
invariant-loop-qubit l = record {
  qubits : l.circuit.qubits ≡ l.initial.circuit.qubits;
  gates : l.circuit.gates ++ pairs_among l.grid.rows l.grid.cols l.time (range_with_len l.qubit (l.grid.rows * l.grid.cols - l.qubit))
      ≡ l.initial.circuit.gates ++ pairs_at l.grid.rows l.grid.cols l.time;
}
