use Rattle.std.proofs.Common.{◌<◌, ◌+◌, ◌-◌, ◌*◌, [], ◌∷◌, ◌++◌, length, sym, ap, ◌∙◌, arith}
use Rattle.std.specs.List.{range_with_len}
use Rattle.qh_gen.specs.Drawings.{drawn_gates, state_after}
use Rattle.qh_gen.specs.Grids.{alone_among, alone_at}
use Rattle.qh_gen.proofs.StepLemmas.{range_step, drawn_step, state_step, step_fits, step_next, step_qubits}
use Rattle.qh_gen.proofs.layer.push_all_drawn.Goals as goal

pub push_drawn-requires-clause-fits : goal.push_drawn-requires-clause-fits
push_drawn-requires-clause-fits c =
    let rows = c.args.grid.now.rows in
    let cols = c.args.grid.now.cols in
    let time = c.args.time in
    let s = c.loop-qubit.state in
    let now = c.loop-qubit.circuit in
    let q = c.loop-qubit.qubit in
    let n = rows * cols in
    let below : q < n = (let e = c.qubits-qubit-end.ensures in let t = c.loop-qubit-test.true in omega arith) in
    let rest = range_with_len (q + 1) (n - (q + 1)) in
    let one = drawn_gates time s (alone_among rows cols time (q ∷ [])) in
    let others = drawn_gates time (state_after (length (alone_among rows cols time (q ∷ []))) s) (alone_among rows cols time rest) in
    step_fits c.args.circuit.now now (drawn_gates time c.args.start (alone_at rows cols time)) one others c.requires.fits c.loop-qubit.invariant.qubits
    (ap (λ gs. now.gates ++ gs) (sym (drawn_step rows cols time s q rest)) ∙ ap (λ qs. now.gates ++ drawn_gates time s (alone_among rows cols time qs)) (sym (range_step n q below)) ∙ c.loop-qubit.invariant.gates)

pub loop-qubit-preserved : goal.loop-qubit-preserved
loop-qubit-preserved c =
    let rows = c.args.grid.now.rows in
    let cols = c.args.grid.now.cols in
    let time = c.args.time in
    let s = c.loop-qubit.state in
    let now = c.loop-qubit.circuit in
    let next = c.push_drawn.new.circuit in
    let q = c.loop-qubit.qubit in
    let n = rows * cols in
    let below : q < n = (let e = c.qubits-qubit-end.ensures in let t = c.loop-qubit-test.true in omega arith) in
    let rest = range_with_len (q + 1) (n - (q + 1)) in
    let one = drawn_gates time s (alone_among rows cols time (q ∷ [])) in
    let after = state_after (length (alone_among rows cols time (q ∷ []))) s in
    let whole = c.args.circuit.now.gates ++ drawn_gates time c.args.start (alone_at rows cols time) in
    record {
      qubits = step_qubits c.args.circuit.now now next one c.in_ok-state.ensures.gates c.loop-qubit.invariant.qubits;
      gates = ap (λ z. next.gates ++ drawn_gates time z (alone_among rows cols time rest)) c.in_ok-state.ensures.state
          ∙ step_next now next one (drawn_gates time after (alone_among rows cols time rest)) whole c.in_ok-state.ensures.gates
          (ap (λ gs. now.gates ++ gs) (sym (drawn_step rows cols time s q rest)) ∙ ap (λ qs. now.gates ++ drawn_gates time s (alone_among rows cols time qs)) (sym (range_step n q below)) ∙ c.loop-qubit.invariant.gates);
      state = ap (state_after (length (alone_among rows cols time rest))) c.in_ok-state.ensures.state
          ∙ sym (state_step rows cols time s q rest)
          ∙ ap (λ qs. state_after (length (alone_among rows cols time qs)) s) (sym (range_step n q below))
          ∙ c.loop-qubit.invariant.state;
    }
