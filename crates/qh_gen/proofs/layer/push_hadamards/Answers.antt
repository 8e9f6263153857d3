use Rattle.std.proofs.Common.{◌<◌, ◌+◌, ◌-◌, ◌*◌, [], ◌∷◌, ◌++◌, map, sym, ap, ◌∙◌, arith}
use Rattle.std.specs.List.{range_with_len}
use Rattle.qh_gates.specs.declared.kind.Kind.TheVariants.{H}
use Rattle.qh_gen.specs.Drawings.{single}
use Rattle.qh_gen.specs.Grids.{hadamards_at}
use Rattle.qh_gen.proofs.CircuitLemmas.{may_push}
use Rattle.qh_gen.proofs.StepLemmas.{range_step, step_fits, step_next, step_qubits}
use Rattle.qh_gen.proofs.layer.push_hadamards.Goals as goal

pub push-requires-clause-accepted : goal.push-requires-clause-accepted
push-requires-clause-accepted c =
    let grid = c.args.grid.now in
    let now = c.loop-qubit.circuit in
    let q = c.loop-qubit.qubit in
    let n = grid.rows * grid.cols in
    let below : q < n = (let e = c.qubits-qubit-end.ensures in let t = c.loop-qubit-test.true in omega arith) in
    let rest = map (single c.args.time H) (range_with_len (q + 1) (n - (q + 1))) in
    may_push now.qubits now.gates (single c.args.time H q)
    (step_fits c.args.circuit.now now (hadamards_at grid.rows grid.cols c.args.time) (single c.args.time H q ∷ []) rest c.requires c.loop-qubit.invariant.qubits
    (ap (λ qs. now.gates ++ map (single c.args.time H) qs) (sym (range_step n q below)) ∙ c.loop-qubit.invariant.gates))

pub loop-qubit-preserved : goal.loop-qubit-preserved
loop-qubit-preserved c =
    let grid = c.args.grid.now in
    let now = c.loop-qubit.circuit in
    let q = c.loop-qubit.qubit in
    let n = grid.rows * grid.cols in
    let below : q < n = (let e = c.qubits-qubit-end.ensures in let t = c.loop-qubit-test.true in omega arith) in
    let rest = map (single c.args.time H) (range_with_len (q + 1) (n - (q + 1))) in
    record {
      qubits = step_qubits c.args.circuit.now now c.push.new.self (single c.args.time H q ∷ []) c.in_ok-push.ensures.ok c.loop-qubit.invariant.qubits;
      gates = step_next now c.push.new.self (single c.args.time H q ∷ []) rest (c.args.circuit.now.gates ++ hadamards_at grid.rows grid.cols c.args.time) c.in_ok-push.ensures.ok
          (ap (λ qs. now.gates ++ map (single c.args.time H) qs) (sym (range_step n q below)) ∙ c.loop-qubit.invariant.gates);
    }
