use Rattle.std.proofs.Common.{◌≡◌, ◌<◌, List, Any, subst}
use Rattle.std.proofs.lemmas.Bool.{false≢true}
use Rattle.qh_gates.specs.declared.gate.Gate.{Gate}
use Rattle.qh_gates.specs.declared.gate.GateFault.TheVariants.{Overlap}
use Rattle.qh_gates.specs.Circuits.{Circuit}
use Rattle.qh_gates.specs.Faults.{Shares, Applies, NoneBefore}
use Rattle.qh_gates.proofs.circuit.Circuit.check.Goals as goal

pub returns-then-overlaps_any-clause-first : goal.returns-then-overlaps_any-clause-first
returns-then-overlaps_any-clause-first c =
    let g = c.args.gate.now in
    let gates = c.self.inside.gates.items in
    let here : Any (λ h. (h.time ≡ g.time) × Shares g h) gates =
    subst (Any (λ (h : Gate). (h.time ≡ g.time) × Shares g h)) c.as_slice-2.ensures.value (c.overlaps_any.ensures.0 c.if-overlaps_any.true) in
    let late : Any (λ h. g.time < h.time) gates → ⊥ =
    subst (λ (xs : List Gate). Any (λ (h : Gate). g.time < h.time) xs → ⊥) c.as_slice.ensures.value (λ h. false≢true (c.if-is_before_any.ensures.1 h)) in
    subst (λ (v : Circuit). Applies v g Overlap × NoneBefore v g Overlap) c.self.view_is
    (here, (λ h. false≢true (c.if-is_out_of_range.ensures.1 h), λ h. false≢true (c.if-repeats_qubit.ensures.1 h), late))
