use Rattle.std.proofs.Common.{ap, sym, ◌∙◌, arith, length, List, ℕ}
use Rattle.qh_circuit.proofs.GateLineLemmas.{bad_time, unknown_gate, named, bad_qubit, same_qubit, extra, no_fault, gate_read}
use Rattle.qh_circuit.proofs.gate_line.gate_in.Goals as goal

pub returns-in_default-clause-fault : goal.returns-in_default-clause-fault
returns-in_default-clause-fault c = bad_time _ _ c.in_default.ensures

pub returns-in_default-next_kind-clause-fault : goal.returns-in_default-next_kind-clause-fault
returns-in_default-next_kind-clause-fault c = unknown_gate _ _ _ _ c.in-Some.ensures c.in_default-next_kind.ensures

pub returns-in_default-next_qubits-clause-fault : goal.returns-in_default-next_qubits-clause-fault
returns-in_default-next_qubits-clause-fault c =
    bad_qubit _ _ _ _ _ (named _ _ _ _ _ c.in-Some.ensures c.in-Some-next_kind.ensures) c.in_default-next_qubits.ensures

pub returns-then-are_one_qubit-clause-fault : goal.returns-then-are_one_qubit-clause-fault
returns-then-are_one_qubit-clause-fault c =
    same_qubit _ _ _ _ _ _ _ _ (named _ _ _ _ _ c.in-Some.ensures c.in-Some-next_kind.ensures) c.in-Some-next_qubits.ensures (sym c.are_one_qubit.ensures ∙ c.if-are_one_qubit.true)

pub returns-in-Some-next_word-clause-fault : goal.returns-in-Some-next_word-clause-fault
returns-in-Some-next_word-clause-fault c =
    extra _ _ _ _ _ _ _ _ (named _ _ _ _ _ c.in-Some.ensures c.in-Some-next_kind.ensures) c.in-Some-next_qubits.ensures (sym c.are_one_qubit.ensures ∙ c.if-are_one_qubit.false)
    (omega (arith, ap (length {A = List ℕ}) c.in-Some-next_word.ensures.words))

pub returns-in-None-clause-fault : goal.returns-in-None-clause-fault
returns-in-None-clause-fault c =
    no_fault _ _ _ _ _ _ _ _ (named _ _ _ _ _ c.in-Some.ensures c.in-Some-next_kind.ensures) c.in-Some-next_qubits.ensures (sym c.are_one_qubit.ensures ∙ c.if-are_one_qubit.false)
    (ap (length {A = List ℕ}) c.in-None.ensures.words)

pub returns-in-None-clause-gate : goal.returns-in-None-clause-gate
returns-in-None-clause-gate c =
    gate_read _ _ _ _ _ _ _ _ (named _ _ _ _ _ c.in-Some.ensures c.in-Some-next_kind.ensures) c.in-Some-next_qubits.ensures
