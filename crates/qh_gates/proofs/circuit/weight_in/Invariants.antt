use Rattle.std.proofs.Common.{◌≡◌, ◌≤◌, take}
use Rattle.qh_gates.specs.Circuits.{total_weight}
use Rattle.qh_gates.proofs.circuit.weight_in.Given as goal

abbrev pub invariant-loop-gate : goal.invariant-loop-gate
invariant-loop-gate l = record {
  value : l.total ≡ total_weight (take l.gate-index l.gates);
  bounded : l.total ≤ l.gate-index;
}
