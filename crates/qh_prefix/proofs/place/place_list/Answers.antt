use Rattle.std.proofs.Common.{rules, arith, ◌≡◌, ◌+◌, ◌<◌, ◌++◌, [], All, length, take, slice_index_or, append-nil, sym, ap, subst, ◌∙◌}
use Rattle.std.specs.List.{cons_option}
use Rattle.std.proofs.lemmas.List.{take_all}
use Rattle.qh_gates.specs.declared.gate.Gate.{Gate}
use Rattle.qh_gates.specs.declared.kind.Kind.TheVariants.{H}
use Rattle.qh_gates.specs.Circuits.{Fits}
use Rattle.qh_prefix.specs.Parts.{in_part, width}
use Rattle.qh_prefix.specs.Places.{IsPlacedIn, placed}
use Rattle.qh_prefix.proofs.PlaceLemmas.{length_numbers, number_at, push_place, placed_fit}
use Rattle.qh_prefix.proofs.place.place_list.Goals as goal
use Rattle.qh_prefix.proofs.place.place_list.Goals.{in-Some+in_ok-push, in_default}

abbrev no_gate : Gate
no_gate = record { time = 0; kind = H; q0 = 0; q1 = 0 }

pub index-first-requires : goal.index-first-requires
index-first-requires c =
    let one = in_part c.args.part c.args.job.now in
    let f : Fits c.args.job.now.circuit.qubits (slice_index_or c.args.gates.now c.loop-gate.gate-index no_gate) = c.requires c.loop-gate.gate-index no_gate c.loop-gate-test.true in
    let low = f.first in
    let len = ap length c.in_ok-numbers.ensures ∙ length_numbers one c.args.job.now.circuit.qubits in
    let goes : (slice_index_or c.args.gates.now c.loop-gate.gate-index no_gate).q0 < length c.in_ok-numbers.numbers.items = omega (arith, low, len) in
    search (rules, goes)

pub index-second-requires : goal.index-second-requires
index-second-requires c =
    let one = in_part c.args.part c.args.job.now in
    let f : Fits c.args.job.now.circuit.qubits (slice_index_or c.args.gates.now c.loop-gate.gate-index no_gate) = c.requires c.loop-gate.gate-index no_gate c.loop-gate-test.true in
    let low = f.second in
    let len = ap length c.in_ok-numbers.ensures ∙ length_numbers one c.args.job.now.circuit.qubits in
    let goes : (slice_index_or c.args.gates.now c.loop-gate.gate-index no_gate).q1 < length c.in_ok-numbers.numbers.items = omega (arith, low, len) in
    search (rules, goes)

pub loop-gate-preserved : goal.loop-gate-preserved
loop-gate-preserved c =
    let one = in_part c.args.part c.args.job.now in
    let items = c.args.gates.now in
    let gate = slice_index_or items c.loop-gate.gate-index no_gate in
    let f : Fits c.args.job.now.circuit.qubits gate = c.requires c.loop-gate.gate-index no_gate c.loop-gate-test.true in
    let first = c.index-first.ensures ∙ ap (λ ns. slice_index_or ns gate.q0 c.index-first.result.now) c.in_ok-numbers.ensures ∙ number_at one c.args.job.now.circuit.qubits gate.q0 c.index-first.result.now f.first in
    let second = c.index-second.ensures ∙ ap (λ ns. slice_index_or ns gate.q1 c.index-second.result.now) c.in_ok-numbers.ensures ∙ number_at one c.args.job.now.circuit.qubits gate.q1 c.index-second.result.now f.second in
    let more = push_place one items c.loop-gate.gate-index no_gate c.index-first.result.now c.index-second.result.now c.place.result c.loop-gate-test.true first second c.place.ensures in
    let after : c.loop-gate.list.items ++ cons_option c.place.result [] ≡ placed one (take (c.loop-gate.gate-index + 1) items) =
    ap (λ ps. ps ++ cons_option c.place.result []) c.loop-gate.invariant ∙ sym more in
    elim c.match-place.branch [
      | in-Some+in_ok-push w ↦ ap (λ v. v.items) w.list-is ∙ w.in_ok-push.ensures.items ∙ ap (λ o. c.loop-gate.list.items ++ cons_option o []) (sym w.in-Some.is) ∙ after
      | in_default w ↦ ap (λ v. v.items) w.list-is ∙ sym (append-nil c.loop-gate.list.items) ∙ ap (λ o. c.loop-gate.list.items ++ cons_option o []) (sym w.in_default.is) ∙ after
    ]

pub returns-clause-fit : goal.returns-clause-fit
returns-clause-fit c =
    let one = in_part c.args.part c.args.job.now in
    let e = c.loop-gate.invariant ∙ ap (placed one) (take_all c.loop-gate.gate-index c.args.gates.now c.loop-gate-test.false) in
    subst (All (IsPlacedIn (width c.args.part c.args.job.now))) (sym e) (placed_fit one c.args.job.now.circuit.qubits c.args.gates.now c.requires)
