use Rattle.std.proofs.Common.{◌≡◌, ◌≤◌, ◌<◌, ◌++◌, ◌+◌, ◌∷◌, [], All, List, ℕ, length, map, take, slice_index_or, sym, ap, subst, ◌∙◌}
use Rattle.std.proofs.Math.Path.{ap₂}
use Rattle.std.proofs.lemmas.List.{take_more, map-append}
use Rattle.qh_plan.specs.Parts.{local_index}
use Rattle.qh_prefix.specs.Parts.{in_part, index_on}
use Rattle.qh_prefix.proofs.IndexLemmas.{qubits_under, length_below, index_below}
use Rattle.qh_prefix.proofs.WidthLemmas.{width_few}
use Rattle.qh_prefix.proofs.index.local_indices.Goals as goal

pub index_on-requires-clause-below : goal.index_on-requires-clause-below
index_on-requires-clause-below c =
    subst (All (λ q. q < 40)) (sym (c.deref.ensures.value ∙ c.in_ok-qubits.ensures))
    (qubits_under (in_part c.args.part c.args.job.now) c.args.job.now.circuit.qubits 40 c.bits-x-items.ensures.valid.valid.few)

pub index_on-requires-clause-few : goal.index_on-requires-clause-few
index_on-requires-clause-few c =
    subst (λ n. n ≤ 20) (sym (ap (length {A = ℕ}) (c.deref.ensures.value ∙ c.in_ok-qubits.ensures) ∙ length_below (in_part c.args.part c.args.job.now) c.args.job.now.circuit.qubits))
    (width_few c.args.part c.args.job.now c.bits-x-items.ensures.valid)

pub loop-x-preserved : goal.loop-x-preserved
loop-x-preserved c =
    let one = in_part c.args.part c.args.job.now in
    let n = c.args.job.now.circuit.qubits in
    let x = slice_index_or c.bits-x-items.result.now c.loop-x.x-index 0 in
    let here : c.index_on.result ≡ local_index one n x =
    c.index_on.ensures.value ∙ ap (λ qs. index_on qs x) (c.deref.ensures.value ∙ c.in_ok-qubits.ensures) ∙ index_below one n x in
    let more : map (local_index one n) (take (c.loop-x.x-index + 1) c.bits-x-items.result.now) ≡ map (local_index one n) (take c.loop-x.x-index c.bits-x-items.result.now) ++ local_index one n x ∷ [] =
    ap (map (local_index one n)) (take_more c.bits-x-items.result.now c.loop-x.x-index 0 c.loop-x-test.true)
    ∙ map-append (local_index one n) (take c.loop-x.x-index c.bits-x-items.result.now) (x ∷ []) in
    let bits = c.bits-x-items.ensures.value in
    c.in_ok-push.ensures.items
    ∙ ap₂ (λ (is : List ℕ) i. is ++ i ∷ []) (c.loop-x.invariant ∙ ap (λ xs. map (local_index one n) (take c.loop-x.x-index xs)) (sym bits)) here
    ∙ sym more ∙ ap (λ xs. map (local_index one n) (take (c.loop-x.x-index + 1) xs)) bits
