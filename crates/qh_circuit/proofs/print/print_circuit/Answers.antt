use Rattle.std.proofs.Common.{◌^◌, ◌<◌, ◌≤◌, ◌++◌, ◌∷◌, decimal, arith, ap, ◌∙◌}
use Rattle.std.specs.List.{flat_map}
use Rattle.std.proofs.lemmas.List.{take_all}
use Rattle.std.proofs.lemmas.List.Elements.{All-weaker}
use Rattle.qh_gates.specs.declared.gate.Gate.{Gate}
use Rattle.qh_circuit.specs.Spelling.{circuit_text, gate_line}
use Rattle.qh_circuit.specs.Texts.{circuit_of}
use Rattle.qh_circuit.proofs.ReadBackLemmas.{read_back}
use Rattle.qh_circuit.proofs.print.print_circuit.Goals as goal

pub returns-clause-text : goal.returns-clause-text
unfolding circuit_text
returns-clause-text c =
    c.loop-gate.invariant ∙ ap (λ gates. decimal c.args.circuit.now.qubits ++ 10 ∷ flat_map gate_line gates)
    (take_all c.loop-gate.gate-index c.gates-gate-items.result.now c.loop-gate-test.false ∙ c.gates-gate-items.ensures.value)

pub returns-clause-read_back : goal.returns-clause-read_back
returns-clause-read_back c = λ max_time limit within.
    ap (circuit_of max_time) (returns-clause-text c) ∙ read_back max_time c.args.circuit.now c.qubits.ensures.valid limit within

pub returns-clause-whole : goal.returns-clause-whole
returns-clause-whole c =
    let valid = c.qubits.ensures.valid in
    returns-clause-read_back c 4294967295 (omega arith)
    (All-weaker (λ (g : Gate). g.time < 2 ^ 32) (λ (g : Gate). g.time ≤ 4294967295) (λ g l. omega arith) c.args.circuit.now.gates valid.times)
