use Rattle.std.proofs.Common.{◌≡◌, ◌-◌, ◌*◌, ◌++◌, length}
use Rattle.std.specs.List.{range_with_len}
use Rattle.qh_gen.specs.Drawings.{drawn_gates, state_after}
use Rattle.qh_gen.specs.Grids.{alone_among, alone_at}
use Rattle.qh_gen.proofs.layer.push_all_drawn.Given as goal

abbrev pub invariant-loop-qubit : goal.invariant-loop-qubit
invariant-loop-qubit l = record {
  qubits : l.circuit.qubits ≡ l.initial.circuit.qubits;
  gates : l.circuit.gates ++ drawn_gates l.time l.state (alone_among l.grid.rows l.grid.cols l.time (range_with_len l.qubit (l.grid.rows * l.grid.cols - l.qubit)))
      ≡ l.initial.circuit.gates ++ drawn_gates l.time l.initial.state (alone_at l.grid.rows l.grid.cols l.time);
  state : state_after (length (alone_among l.grid.rows l.grid.cols l.time (range_with_len l.qubit (l.grid.rows * l.grid.cols - l.qubit)))) l.state
      ≡ state_after (length (alone_at l.grid.rows l.grid.cols l.time)) l.initial.state;
}
