use Rattle.std.proofs.Common.{◌<◌, ◌+◌, ◌-◌, ◌*◌, [], ◌∷◌, ◌++◌, sym, ap, ◌∙◌, arith}
use Rattle.std.specs.List.{range_with_len}
use Rattle.qh_gen.specs.Grids.{pairs_among, pairs_at}
use Rattle.qh_gen.proofs.StepLemmas.{range_step, pairs_step, step_fits, step_next, step_qubits}
use Rattle.qh_gen.proofs.layer.push_pairs.Goals as goal

pub push_pair-requires-clause-fits : goal.push_pair-requires-clause-fits
push_pair-requires-clause-fits c =
    let rows = c.args.grid.now.rows in
    let cols = c.args.grid.now.cols in
    let time = c.args.time in
    let now = c.loop-qubit.circuit in
    let q = c.loop-qubit.qubit in
    let n = rows * cols in
    let below : q < n = (let e = c.qubits-qubit-end.ensures in let t = c.loop-qubit-test.true in omega arith) in
    let rest = range_with_len (q + 1) (n - (q + 1)) in
    step_fits c.args.circuit.now now (pairs_at rows cols time) (pairs_among rows cols time (q ∷ [])) (pairs_among rows cols time rest) c.requires.fits c.loop-qubit.invariant.qubits
    (ap (λ gs. now.gates ++ gs) (sym (pairs_step rows cols time q rest)) ∙ ap (λ qs. now.gates ++ pairs_among rows cols time qs) (sym (range_step n q below)) ∙ c.loop-qubit.invariant.gates)

pub loop-qubit-preserved : goal.loop-qubit-preserved
loop-qubit-preserved c =
    let rows = c.args.grid.now.rows in
    let cols = c.args.grid.now.cols in
    let time = c.args.time in
    let now = c.loop-qubit.circuit in
    let q = c.loop-qubit.qubit in
    let n = rows * cols in
    let below : q < n = (let e = c.qubits-qubit-end.ensures in let t = c.loop-qubit-test.true in omega arith) in
    let rest = range_with_len (q + 1) (n - (q + 1)) in
    record {
      qubits = step_qubits c.args.circuit.now now c.push_pair.new.circuit (pairs_among rows cols time (q ∷ [])) c.in_ok-push_pair.ensures c.loop-qubit.invariant.qubits;
      gates = step_next now c.push_pair.new.circuit (pairs_among rows cols time (q ∷ [])) (pairs_among rows cols time rest) (c.args.circuit.now.gates ++ pairs_at rows cols time) c.in_ok-push_pair.ensures
          (ap (λ gs. now.gates ++ gs) (sym (pairs_step rows cols time q rest)) ∙ ap (λ qs. now.gates ++ pairs_among rows cols time qs) (sym (range_step n q below)) ∙ c.loop-qubit.invariant.gates);
    }
