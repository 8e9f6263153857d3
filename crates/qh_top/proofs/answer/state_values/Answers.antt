use Rattle.std.proofs.Common.{◌≡◌, ◌<◌, ◌^◌, length, map, get_or, sym, ap, subst, ◌∙◌, List}
use Rattle.qh_ring.specs.declared.number.Omega.{Omega}
use Rattle.qh_ring.specs.States.{at_index, listed}
use Rattle.qh_ring.proofs.ListedLemmas.{length-listed, at_listed}
use Rattle.qh_gates.specs.Evolution.{uncut}
use Rattle.qh_top.proofs.Sums.{ok_of}
use Rattle.qh_top.proofs.Values.{map_same}
use Rattle.qh_top.proofs.answer.state_values.Goals as goal

pub values_at-requires-clause-below : goal.values_at-requires-clause-below
values_at-requires-clause-below c = λ k d l.
    let n = c.args.circuit.now.qubits in
    let state = uncut c.args.circuit.now.gates in
    let len : length c.args.state.now ≡ 2 ^ n = ap (length {A = Omega}) c.requires.exact ∙ length-listed n state in
    subst (λ s. get_or c.args.indices.now k d < s) (sym len) (c.requires.bits.below k d l)

pub returns-clause-values : goal.returns-clause-values
returns-clause-values c =
    let n = c.args.circuit.now.qubits in
    let state = uncut c.args.circuit.now.gates in
    let xs = c.args.indices.now in
    ok_of c.values_at.result _ _ c.values_at.ensures.values (λ v e.
    e ∙ ap (λ (w : List Omega). map (at_index w) xs) c.requires.exact
    ∙ map_same (λ x. x < 2 ^ n) xs (at_index (listed n state)) state c.requires.bits.below (λ x l. at_listed n state x l))
