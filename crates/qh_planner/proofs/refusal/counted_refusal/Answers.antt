use Rattle.qh_planner.proofs.RefusalLemmas.{first_width, first_path, first_split, first_size}
use Rattle.qh_planner.proofs.refusal.counted_refusal.Goals as goal

pub returns-in-Some-clause-value : goal.returns-in-Some-clause-value
returns-in-Some-clause-value c =
    let a = c.args in
    first_width a.qubits a.size a.crossing.now a.split.now.p a.split.now.r a.split.now.prefix a.text a.bits c.in-Some.fault c.in-Some.ensures.value

pub returns-in-Some-path_refusal-clause-value : goal.returns-in-Some-path_refusal-clause-value
returns-in-Some-path_refusal-clause-value c =
    let a = c.args in
    first_path a.qubits a.size a.crossing.now a.split.now.p a.split.now.r a.split.now.prefix a.text a.bits c.in-Some-path_refusal.fault
    c.in_default.ensures.value c.in-Some-path_refusal.ensures.value

pub returns-in-Some-split_refusal-clause-value : goal.returns-in-Some-split_refusal-clause-value
returns-in-Some-split_refusal-clause-value c =
    let a = c.args in
    first_split a.qubits a.size a.crossing.now a.split.now.p a.split.now.r a.split.now.prefix a.text a.bits c.in-Some-split_refusal.fault
    c.in_default.ensures.value c.in_default-path_refusal.ensures.value c.in-Some-split_refusal.ensures

pub returns-clause-value : goal.returns-clause-value
returns-clause-value c =
    let a = c.args in
    first_size a.qubits a.size a.crossing.now a.split.now.p a.split.now.r a.split.now.prefix a.text a.bits c.size_refusal.result
    c.in_default.ensures.value c.in_default-path_refusal.ensures.value c.in_default-split_refusal.ensures c.size_refusal.ensures
