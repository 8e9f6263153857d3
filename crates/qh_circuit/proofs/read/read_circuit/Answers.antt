use Rattle.std.proofs.Common.{◌≡◌, Ok, IfOk, IfErr, sym, ap, subst, ◌∙◌, Result}
use Rattle.qh_gates.specs.Circuits.{Circuit}
use Rattle.qh_circuit.specs.Answers.{Tells}
use Rattle.qh_circuit.specs.Texts.{FaultyLine, gates_in, circuit_of}
use Rattle.qh_circuit.proofs.ReadingLemmas.{no_count, bad_count, good_count}
use Rattle.qh_circuit.proofs.read.read_circuit.Goals as goal

pub returns-in_default-clause-fault : goal.returns-in_default-clause-fault
returns-in_default-clause-fault c = no_count _ _ (sym c.new-lines.ensures ∙ c.in_default.ensures.steps.0)

pub returns-in-Err-clause-fault : goal.returns-in-Err-clause-fault
returns-in-Err-clause-fault c = bad_count _ _ (c.in-Some.count.number, c.in-Some.count.bytes.now) _ _ (sym c.new-lines.ensures ∙ c.in-Some.ensures.steps) c.in-Err.ensures.fault

pub returns-clause-ok : goal.returns-clause-ok
returns-clause-ok c =
    let same : circuit_of c.args.max_time c.args.bytes.now ≡ gates_in c.start.result.qubits c.args.max_time c.next.new.self =
    good_count _ _ _ (c.in-Some.count.number, c.in-Some.count.bytes.now) _ (sym c.new-lines.ensures ∙ c.in-Some.ensures.steps) c.in-Ok.ensures.fault
    (c.in-Ok.ensures.value ∙ sym (ap (λ (v : Circuit). v.qubits) c.start.ensures)) in
    subst (λ (m : Result Circuit FaultyLine). IfOk c.read_gates.result (λ circuit. m ≡ Ok circuit)) (sym same) c.read_gates.ensures.ok

pub returns-clause-fault : goal.returns-clause-fault
returns-clause-fault c =
    let same : circuit_of c.args.max_time c.args.bytes.now ≡ gates_in c.start.result.qubits c.args.max_time c.next.new.self =
    good_count _ _ _ (c.in-Some.count.number, c.in-Some.count.bytes.now) _ (sym c.new-lines.ensures ∙ c.in-Some.ensures.steps) c.in-Ok.ensures.fault
    (c.in-Ok.ensures.value ∙ sym (ap (λ (v : Circuit). v.qubits) c.start.ensures)) in
    subst (λ (m : Result Circuit FaultyLine). IfErr c.read_gates.result (Tells m)) (sym same) c.read_gates.ensures.fault
