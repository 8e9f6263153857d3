use Rattle.std.proofs.Common.{◌≡◌, ◌≤◌, length, Some, None, sym, ap, subst, ◌∙◌}
use Rattle.qh_text.specs.LineWords.{words_of}
use Rattle.qh_gates.specs.declared.gate.Gate.{Gate}
use Rattle.qh_gates.specs.Circuits.{Circuit, Fits}
use Rattle.qh_circuit.specs.GateLines.{kept}
use Rattle.qh_circuit.specs.Faults.{first_fault, gate_faults}
use Rattle.qh_circuit.proofs.ReadingLemmas.{faulty_by_itself, faulty_by_order, read_more}
use Rattle.qh_circuit.proofs.OrderLemmas.{accepted, not_back}
use Rattle.qh_circuit.proofs.read.read_gates.Goals as goal

pub returns-in-Err-clause-fault : goal.returns-in-Err-clause-fault
returns-in-Err-clause-fault c =
    let r = c.loop-line.invariant in
    let count : c.qubits.result ≡ c.args.start.qubits = c.qubits.ensures.value ∙ ap (λ (v : Circuit). v.qubits) r.circuit_is in
    faulty_by_itself _ _ _ _ _ _ _ (c.in-Some.line.number, c.in-Some.line.bytes.now) _ r c.in-Some.ensures.steps
    (subst (λ q. first_fault (gate_faults q (words_of c.in-Some.line.bytes.now)) ≡ Some c.in-Err.why) count c.in-Err.ensures.fault)

pub returns-in-Some-order_fault-clause-fault : goal.returns-in-Some-order_fault-clause-fault
returns-in-Some-order_fault-clause-fault c =
    let r = c.loop-line.invariant in
    let count : c.qubits.result ≡ c.args.start.qubits = c.qubits.ensures.value ∙ ap (λ (v : Circuit). v.qubits) r.circuit_is in
    let kept_is : length c.gates.result.now ≡ length (kept c.args.max_time r.before) = ap (length {A = Gate}) (c.gates.ensures.value ∙ ap (λ (v : Circuit). v.gates) r.circuit_is) in
    faulty_by_order _ _ _ _ _ _ _ (c.in-Some.line.number, c.in-Some.line.bytes.now) c.in-Ok.gate _ r c.in-Some.ensures.steps
    (subst (λ q. first_fault (gate_faults q (words_of c.in-Some.line.bytes.now)) ≡ None) count c.in-Ok.ensures.fault) c.in-Ok.ensures.gate
    (sym c.in-Some-order_fault.is ∙ c.order_fault.ensures r.before r.latest_is kept_is)

pub keep-requires-clause-accepted : goal.keep-requires-clause-accepted
keep-requires-clause-accepted c = λ within.
    let r = c.loop-line.invariant in
    let gates_are : c.loop-line.circuit.gates ≡ kept c.args.max_time r.before = ap (λ (v : Circuit). v.gates) r.circuit_is in
    let kept_is : length c.gates.result.now ≡ length (kept c.args.max_time r.before) = ap (length {A = Gate}) (c.gates.ensures.value ∙ gates_are) in
    accepted c.args.max_time r.before c.loop-line.latest c.loop-line.circuit c.in-Ok.gate r.latest_is
    (subst (λ q. Fits q c.in-Ok.gate) c.qubits.ensures.value c.in-Ok.ensures.fits) gates_are
    (sym (c.order_fault.ensures r.before r.latest_is kept_is) ∙ c.in_default.is) within

pub loop-line-preserved : goal.loop-line-preserved
loop-line-preserved c =
    let r = c.loop-line.invariant in
    let count : c.qubits.result ≡ c.args.start.qubits = c.qubits.ensures.value ∙ ap (λ (v : Circuit). v.qubits) r.circuit_is in
    let kept_is : length c.gates.result.now ≡ length (kept c.args.max_time r.before) = ap (length {A = Gate}) (c.gates.ensures.value ∙ ap (λ (v : Circuit). v.gates) r.circuit_is) in
    let order = sym c.in_default.is ∙ c.order_fault.ensures r.before r.latest_is kept_is in
    let late : c.loop-line.latest.time ≤ c.in-Ok.gate.time = not_back _ r.before c.loop-line.latest c.in-Ok.gate r.latest_is order in
    read_more _ _ _ _ _ _ _ _ _ (c.in-Some.line.number, c.in-Some.line.bytes.now) c.in-Ok.gate r c.in-Some.ensures.steps
    (subst (λ q. first_fault (gate_faults q (words_of c.in-Some.line.bytes.now)) ≡ None) count c.in-Ok.ensures.fault) c.in-Ok.ensures.gate
    order (c.after-latest.ensures r.before r.latest_is late) c.in-Ok-keep.ensures.ok
