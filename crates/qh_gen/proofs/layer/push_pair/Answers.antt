use Rattle.std.proofs.Common.{◌+◌, List, sym, ◌∙◌, subst}
use Rattle.qh_gates.specs.declared.gate.Gate.{Gate}
use Rattle.qh_gates.specs.Circuits.{IsCircuit}
use Rattle.qh_gen.specs.Grids.{with_gates}
use Rattle.qh_gen.proofs.CircuitLemmas.{may_push}
use Rattle.qh_gen.proofs.StepLemmas.{cz_gate, pair_one}
use Rattle.qh_gen.proofs.layer.push_pair.Goals as goal

pub push-requires-clause-accepted : goal.push-requires-clause-accepted
push-requires-clause-accepted c =
    let grid = c.args.grid.now in
    let circuit = c.args.circuit.now in
    let lower = sym c.is_lower.ensures ∙ c.if-not-is_lower.false in
    let one = pair_one grid.rows grid.cols c.args.time c.args.qubit c.pattern_at-pattern.result c.distance.result c.pattern_at-pattern.ensures lower c.distance.ensures.value in
    may_push circuit.qubits circuit.gates (cz_gate c.args.time c.args.qubit (c.args.qubit + c.distance.result))
    (subst (λ (xs : List Gate). IsCircuit (with_gates circuit xs)) one c.requires.fits)
