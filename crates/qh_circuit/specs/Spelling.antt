-- The one spelling of a circuit. Lines end with LF, numbers have no leading zeros, and one space separates words.
use Rattle.std.specs.Prelude.{ℕ, List, [], ◌∷◌, ◌++◌, ◌==◌, decimal, if◌then◌else◌}
use Rattle.std.specs.List.{flat_map}
use Rattle.qh_text.specs.Words.{word_of}
use Rattle.qh_gates.specs.declared.gate.Gate.{Gate}
use Rattle.qh_gates.specs.Tables.{name_text, qubits_of}
use Rattle.qh_gates.specs.Circuits.{Circuit}

-- a space and the number
abbrev pub spaced_number : ℕ → List ℕ
spaced_number number = word_of (decimal number)

-- the second qubit of a gate that has two
abbrev pub second_text : Gate → List ℕ
second_text gate = if qubits_of gate.kind == 2 then spaced_number gate.q1 else []

-- time, name and qubits
unfoldable pub gate_text : Gate → List ℕ
gate_text gate = decimal gate.time ++ (32 ∷ name_text gate.kind) ++ spaced_number gate.q0 ++ second_text gate

abbrev pub gate_line : Gate → List ℕ
gate_line gate = gate_text gate ++ 10 ∷ []

-- the number of qubits on a line, and a line for each gate
unfoldable pub circuit_text : Circuit → List ℕ
circuit_text circuit = decimal circuit.qubits ++ 10 ∷ flat_map gate_line circuit.gates
