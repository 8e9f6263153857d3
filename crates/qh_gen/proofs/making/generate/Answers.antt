use Rattle.std.proofs.Common.{◌≡◌, ℕ, ◌≤◌, ◌+◌, ◌-◌, ◌*◌, [], ◌++◌, length, sym, ap, subst, ◌∙◌, List, append-nil}
use Rattle.qh_gates.specs.declared.gate.Gate.{Gate}
use Rattle.qh_gates.specs.Circuits.{Circuit, IsCircuit}
use Rattle.qh_gen.specs.Drawings.{drawn_gates, state_after}
use Rattle.qh_gen.specs.Grids.{alone_at, pairs_at, gates_between, hadamards_at, generated_gates, with_gates}
use Rattle.qh_gen.proofs.CircuitLemmas.{circuit_front}
use Rattle.qh_gen.proofs.LayerLemmas.{generated_short, generated_valid}
use Rattle.qh_gen.proofs.StepLemmas.{between_step, between_done, regroup, regroup_last, step_fits, step_next, step_qubits}
use Rattle.qh_gen.proofs.making.generate.Goals as goal

abbrev empty_of : ℕ → ℕ → Circuit
empty_of rows cols = record { qubits = rows * cols; gates = [] }

pub push_hadamards-requires : goal.push_hadamards-requires
push_hadamards-requires c =
    let rows = c.args.rows in
    let cols = c.args.cols in
    let n = rows * cols in
    let first = hadamards_at rows cols 0 in
    let layers = gates_between rows cols c.args.depth 1 c.args.start in
    let valid = generated_valid c.args.start rows cols c.args.depth c.requires.some_rows c.requires.some_cols c.requires.few c.requires.shallow in
    let front = circuit_front n first layers (circuit_front n (first ++ layers) (hadamards_at rows cols (c.args.depth + 1)) valid) in
    let begun : c.start-circuit.result ≡ empty_of rows cols = c.start-circuit.ensures ∙ ap (λ m. record { qubits = m; gates = [] }) c.qubits.ensures in
    subst (λ (v : Circuit). IsCircuit (with_gates v first)) (sym begun) front

pub push_pairs-requires-clause-fits : goal.push_pairs-requires-clause-fits
push_pairs-requires-clause-fits c =
    let rows = c.args.rows in
    let cols = c.args.cols in
    let depth = c.args.depth in
    let time = c.loop-time.time in
    let s = c.loop-time.state in
    let now = c.loop-time.circuit in
    let valid = generated_valid c.args.start rows cols depth c.requires.some_rows c.requires.some_cols c.requires.few c.requires.shallow in
    let after = state_after (length (alone_at rows cols time)) s in
    let pairs = pairs_at rows cols time in
    let drawn = drawn_gates time s (alone_at rows cols time) in
    let later = gates_between rows cols (depth + 1 - (time + 1)) (time + 1) after in
    let last = hadamards_at rows cols (depth + 1) in
    let whole = generated_gates c.args.start rows cols depth in
    let step = regroup now.gates whole (gates_between rows cols (depth + 1 - time) time s) pairs drawn later last (between_step rows cols depth time s c.loop-time-test.true) c.loop-time.invariant.gates in
    step_fits (empty_of rows cols) now whole pairs (drawn ++ (later ++ last)) valid c.loop-time.invariant.qubits step

pub push_all_drawn-requires-clause-fits : goal.push_all_drawn-requires-clause-fits
push_all_drawn-requires-clause-fits c =
    let rows = c.args.rows in
    let cols = c.args.cols in
    let depth = c.args.depth in
    let time = c.loop-time.time in
    let s = c.loop-time.state in
    let now = c.loop-time.circuit in
    let next = c.push_pairs.new.circuit in
    let valid = generated_valid c.args.start rows cols depth c.requires.some_rows c.requires.some_cols c.requires.few c.requires.shallow in
    let after = state_after (length (alone_at rows cols time)) s in
    let pairs = pairs_at rows cols time in
    let drawn = drawn_gates time s (alone_at rows cols time) in
    let later = gates_between rows cols (depth + 1 - (time + 1)) (time + 1) after in
    let last = hadamards_at rows cols (depth + 1) in
    let whole = generated_gates c.args.start rows cols depth in
    let step = regroup now.gates whole (gates_between rows cols (depth + 1 - time) time s) pairs drawn later last (between_step rows cols depth time s c.loop-time-test.true) c.loop-time.invariant.gates in
    step_fits (empty_of rows cols) next whole drawn (later ++ last) valid
    (step_qubits (empty_of rows cols) now next pairs c.in_ok-push_pairs.ensures c.loop-time.invariant.qubits)
    (step_next now next pairs (drawn ++ (later ++ last)) whole c.in_ok-push_pairs.ensures step)

pub loop-time-preserved : goal.loop-time-preserved
loop-time-preserved c =
    let rows = c.args.rows in
    let cols = c.args.cols in
    let depth = c.args.depth in
    let time = c.loop-time.time in
    let s = c.loop-time.state in
    let now = c.loop-time.circuit in
    let next = c.push_pairs.new.circuit in
    let done = c.push_all_drawn.new.circuit in
    let after = state_after (length (alone_at rows cols time)) s in
    let pairs = pairs_at rows cols time in
    let drawn = drawn_gates time s (alone_at rows cols time) in
    let later = gates_between rows cols (depth + 1 - (time + 1)) (time + 1) after in
    let last = hadamards_at rows cols (depth + 1) in
    let whole = generated_gates c.args.start rows cols depth in
    let step = regroup now.gates whole (gates_between rows cols (depth + 1 - time) time s) pairs drawn later last (between_step rows cols depth time s c.loop-time-test.true) c.loop-time.invariant.gates in
    record {
      qubits = step_qubits (empty_of rows cols) next done drawn c.in_ok-state.ensures.gates
          (step_qubits (empty_of rows cols) now next pairs c.in_ok-push_pairs.ensures c.loop-time.invariant.qubits);
      gates = ap (λ z. done.gates ++ (gates_between rows cols (depth + 1 - (time + 1)) (time + 1) z ++ last)) c.in_ok-state.ensures.state
          ∙ step_next next done drawn (later ++ last) whole c.in_ok-state.ensures.gates (step_next now next pairs (drawn ++ (later ++ last)) whole c.in_ok-push_pairs.ensures step);
    }

pub push_hadamards-requires-2 : goal.push_hadamards-requires-2
push_hadamards-requires-2 c =
    let rows = c.args.rows in
    let cols = c.args.cols in
    let depth = c.args.depth in
    let time = c.loop-time.time in
    let s = c.loop-time.state in
    let now = c.loop-time.circuit in
    let valid = generated_valid c.args.start rows cols depth c.requires.some_rows c.requires.some_cols c.requires.few c.requires.shallow in
    let last = hadamards_at rows cols (depth + 1) in
    let whole = generated_gates c.args.start rows cols depth in
    step_fits (empty_of rows cols) now whole last [] valid c.loop-time.invariant.qubits
    (regroup_last now.gates whole (gates_between rows cols (depth + 1 - time) time s) last (between_done rows cols depth time s c.loop-time-test.false) c.loop-time.invariant.gates)

pub returns-clause-short : goal.returns-clause-short
returns-clause-short c =
    let rows = c.args.rows in
    let cols = c.args.cols in
    let depth = c.args.depth in
    let time = c.loop-time.time in
    let s = c.loop-time.state in
    let now = c.loop-time.circuit in
    let last = hadamards_at rows cols (depth + 1) in
    let whole = generated_gates c.args.start rows cols depth in
    let same : c.push_hadamards-2.new.circuit.gates ≡ whole =
    (ap (λ (v : Circuit). v.gates) c.in_ok-push_hadamards-2.ensures
    ∙ ap (λ x. now.gates ++ x) (sym (append-nil last))
    ∙ regroup_last now.gates whole (gates_between rows cols (depth + 1 - time) time s) last (between_done rows cols depth time s c.loop-time-test.false) c.loop-time.invariant.gates) in
    subst (λ (gs : List Gate). length gs ≤ 4080) (sym same) (generated_short c.args.start rows cols depth c.requires.some_cols c.requires.few c.requires.shallow)
