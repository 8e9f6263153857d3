use Rattle.std.proofs.Common.{List, sym, ◌∙◌, subst}
use Rattle.qh_gates.specs.declared.gate.Gate.{Gate}
use Rattle.qh_gates.specs.Circuits.{IsCircuit}
use Rattle.qh_gen.specs.Drawings.{single}
use Rattle.qh_gen.specs.Grids.{with_gates}
use Rattle.qh_gen.proofs.CircuitLemmas.{may_push}
use Rattle.qh_gen.proofs.StepLemmas.{drawn_one}
use Rattle.qh_gen.proofs.layer.push_drawn.Goals as goal

pub push-requires-clause-accepted : goal.push-requires-clause-accepted
push-requires-clause-accepted c =
    let grid = c.args.grid.now in
    let circuit = c.args.circuit.now in
    let alone = sym c.is_alone.ensures ∙ c.if-not-is_alone.false in
    let one = drawn_one grid.rows grid.cols c.args.time c.args.state c.args.qubit c.pattern_at.result c.next_state-next.result c.drawn_kind.result c.pattern_at.ensures alone c.next_state-next.ensures c.drawn_kind.ensures in
    may_push circuit.qubits circuit.gates (single c.args.time c.drawn_kind.result c.args.qubit)
    (subst (λ (xs : List Gate). IsCircuit (with_gates circuit xs)) one c.requires.fits)
