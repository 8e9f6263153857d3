use Rattle.std.proofs.Common.{subst, sym, rules}
use Rattle.qh_gates.specs.Circuits.{Circuit}
use Rattle.qh_gates.specs.Faults.{IsAccepted}
use Rattle.qh_gates.proofs.CircuitLemmas.{circuit_push}
use Rattle.qh_gates.proofs.circuit.Circuit.push.Goals as goal

pub invariant_of-self-2 : goal.invariant_of-self-2
invariant_of-self-2 c =
    let accepted = subst (λ (v : Circuit). IsAccepted v c.args.gate) (sym c.self.view_is) c.requires.accepted in
    rw c.in_ok-push.ensures.items (circuit_push (record { qubits = c.self.inside.qubits; gates = c.self.inside.gates.items }) c.args.gate c.self.invariant (search rules) c.requires.one accepted)
