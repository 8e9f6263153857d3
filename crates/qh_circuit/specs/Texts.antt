-- What a circuit text means: its circuit, or its first faulty line with that line's first fault.
use Rattle.std.specs.Prelude.{ℕ, List, [], ◌∷◌, ◌++◌, map, Option, Result, Ok, Err}
use Rattle.std.specs.Option.{option_map, option_to_list}
use Rattle.qh_text.specs.Decimal.{value_of}
use Rattle.qh_text.specs.Lines.{content_of}
use Rattle.qh_text.specs.LineWords.{words_of}
use Rattle.qh_gates.specs.declared.gate.Gate.{Gate}
use Rattle.qh_gates.specs.Circuits.{Circuit}
use Rattle.qh_circuit.specs.declared.fault.Why.{Why}
use Rattle.qh_circuit.specs.declared.fault.Why.TheVariants.{NoCount}
use Rattle.qh_circuit.specs.GateLines.{word, gate_of, kept}
use Rattle.qh_circuit.specs.Faults.{first_fault, count_faults, gate_faults, order_faults}

pub record FaultyLine : Type 0 where
  pub line : ℕ
  pub why : Why

-- the gate of a numbered line
abbrev pub line_gate : ℕ × List ℕ → Gate
line_gate line = gate_of (words_of line.1)

-- the line, where it has a fault
abbrev pub faulty : ℕ → Option Why → List FaultyLine
faulty number fault = option_to_list (option_map (λ why. record { line = number; why = why }) fault)

-- the first fault of a gate line, given the gates of the gate lines before it
abbrev pub line_fault : ℕ → ℕ → List Gate → ℕ × List ℕ → Option Why
line_fault qubits max_time before line =
    first_fault (gate_faults qubits (words_of line.1) ++ order_faults max_time before (line_gate line))

-- the faulty ones of these gate lines, which stand behind gate lines with these gates
abbrev pub faulty_lines : ℕ → ℕ → List Gate → List (ℕ × List ℕ) → List FaultyLine
faulty_lines qubits max_time before [] = []
faulty_lines qubits max_time before (line ∷ lines) =
    faulty line.0 (line_fault qubits max_time before line) ++ faulty_lines qubits max_time (before ++ line_gate line ∷ []) lines

-- the first of the faulty lines, and where there is none this answer
abbrev pub behind : List FaultyLine → Result Circuit FaultyLine → Result Circuit FaultyLine
behind [] answer = answer
behind (fault ∷ faults) answer = Err fault

-- the circuit of these gate lines, or the first that is faulty
abbrev pub gates_in : ℕ → ℕ → List (ℕ × List ℕ) → Result Circuit FaultyLine
gates_in qubits max_time lines =
    behind (faulty_lines qubits max_time [] lines) (Ok (record { qubits = qubits; gates = kept max_time (map line_gate lines) }))

-- the number that the count line spells
abbrev pub count_of : ℕ × List ℕ → ℕ
count_of count = value_of (word 0 (words_of count.1))

-- the first line is the count, and each further one a gate
abbrev pub circuit_in : ℕ → List (ℕ × List ℕ) → Result Circuit FaultyLine
circuit_in max_time [] = Err (record { line = 0; why = NoCount })
circuit_in max_time (count ∷ lines) =
    behind (faulty count.0 (first_fault (count_faults (words_of count.1)))) (gates_in (count_of count) max_time lines)

-- blank lines and comments are passed over; gates past the greatest time are checked and left out
unfoldable pub circuit_of : ℕ → List ℕ → Result Circuit FaultyLine
circuit_of max_time bytes = circuit_in max_time (content_of bytes)
