use Rattle.std.proofs.Common.{arith, ◌≡◌, ap, ◌∙◌}
use Rattle.qh_plan.specs.Parts.{count_below}
use Rattle.qh_prefix.specs.Parts.{in_part, width}
use Rattle.qh_prefix.proofs.WidthLemmas.{width_few, width_some}
use Rattle.qh_prefix.proofs.part.part_width.Goals as goal

pub returns-clause-some : goal.returns-clause-some
returns-clause-some c =
    let w = width_some c.args.part c.args.job.now c.circuit.ensures.valid in
    let n : c.qubits-qubit-end.result ≡ c.args.job.now.circuit.qubits = c.qubits-qubit-end.ensures.value ∙ ap (λ c. c.qubits) c.circuit.ensures.value in
    let q : c.loop-qubit.qubit ≡ c.args.job.now.circuit.qubits = omega arith in
    let e : c.loop-qubit.count ≡ width c.args.part c.args.job.now = c.loop-qubit.invariant.now ∙ ap (count_below (in_part c.args.part c.args.job.now)) q in
    omega arith

pub returns-clause-few : goal.returns-clause-few
returns-clause-few c =
    let w = width_few c.args.part c.args.job.now c.circuit.ensures.valid in
    let n : c.qubits-qubit-end.result ≡ c.args.job.now.circuit.qubits = c.qubits-qubit-end.ensures.value ∙ ap (λ c. c.qubits) c.circuit.ensures.value in
    let q : c.loop-qubit.qubit ≡ c.args.job.now.circuit.qubits = omega arith in
    let e : c.loop-qubit.count ≡ width c.args.part c.args.job.now = c.loop-qubit.invariant.now ∙ ap (count_below (in_part c.args.part c.args.job.now)) q in
    omega arith
