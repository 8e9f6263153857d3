use Rattle.std.proofs.Common.{sym, ap, subst, ◌∙◌, All}
use Rattle.qh_gates.specs.Evolution.{uncut}
use Rattle.qh_prob.specs.Probability.{total, IsBounded}
use Rattle.qh_prob.proofs.TotalLemmas.{add_up, all_bounded, all_there}
use Rattle.qh_prob.proofs.prob.probabilities_of.Goals as goal

pub returns-clause-certain : goal.returns-clause-certain
returns-clause-certain c =
    let v = c.args.circuit.now in
    ap total (all_there v.qubits c.loop-z.z-index (uncut v.gates) c.deref-z-items.result.now c.in_ok-state.state.items c.loop-z.probs.items
    c.loop-z.invariant c.loop-z-test.false c.deref-z-items.ensures.value c.in_ok-state.ensures.exact)
    ∙ add_up v c.qubits.ensures.valid

pub returns-clause-bounded : goal.returns-clause-bounded
returns-clause-bounded c =
    let v = c.args.circuit.now in
    subst (All IsBounded) (sym (all_there v.qubits c.loop-z.z-index (uncut v.gates) c.deref-z-items.result.now c.in_ok-state.state.items c.loop-z.probs.items
    c.loop-z.invariant c.loop-z-test.false c.deref-z-items.ensures.value c.in_ok-state.ensures.exact))
    (all_bounded v c.qubits.ensures.valid c.requires.shallow)
