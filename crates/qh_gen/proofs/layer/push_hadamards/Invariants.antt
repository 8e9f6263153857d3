use Rattle.std.proofs.Common.{◌≡◌, ◌-◌, ◌*◌, ◌++◌, map}
use Rattle.std.specs.List.{range_with_len}
use Rattle.qh_gates.specs.declared.kind.Kind.TheVariants.{H}
use Rattle.qh_gen.specs.Drawings.{single}
use Rattle.qh_gen.specs.Grids.{hadamards_at}
use Rattle.qh_gen.proofs.layer.push_hadamards.Given as goal

abbrev pub invariant-loop-qubit : goal.invariant-loop-qubit
invariant-loop-qubit l = record {
  qubits : l.circuit.qubits ≡ l.initial.circuit.qubits;
  gates : l.circuit.gates ++ map (single l.time H) (range_with_len l.qubit (l.grid.rows * l.grid.cols - l.qubit))
      ≡ l.initial.circuit.gates ++ hadamards_at l.grid.rows l.grid.cols l.time;
}
