-- Tables of faults. A row is a fault and the test whether it applies; the first fault that applies is the line's.
use Rattle.std.specs.Prelude.{ℕ, ◌+◌, ◌^◌, ◌==◌, ◌&&◌, Bool, not, List, [], ◌∷◌, length, nat_lt, nat_le, Option, Some, None, is_none, if◌then◌else◌}
use Rattle.std.specs.List.{list_any}
use Rattle.qh_limits.specs.Limits.{max_qubits, max_gates}
use Rattle.qh_text.specs.Decimal.{value_of}
use Rattle.qh_gates.specs.declared.gate.Gate.{Gate}
use Rattle.qh_gates.specs.Tables.{qubits_of}
use Rattle.qh_circuit.specs.declared.fault.Why.{Why}
use Rattle.qh_circuit.specs.declared.fault.Why.TheVariants.{BadCount, BadTime, UnknownGate, BadQubit, SameQubit, Extra, TimeBack, Overlap, TooManyGates}
use Rattle.qh_gates.specs.Names.{kind_named}
use Rattle.qh_circuit.specs.GateLines.{word, is_number_below, kind_in, last_place, overlaps, last_time, kept}

abbrev pub first_fault : List (Why × Bool) → Option Why
first_fault [] = None
first_fault (row ∷ rows) = if row.1 then Some row.0 else first_fault rows

-- the count line: a number from 1 to 40, and nothing behind it
abbrev pub count_faults : List (List ℕ) → List (Why × Bool)
count_faults words =
    (BadCount, not (is_number_below (max_qubits + 1) (word 0 words) && nat_le 1 (value_of (word 0 words))))
    ∷ (Extra, nat_lt 1 (length words))
    ∷ []

-- a gate line by itself, in a circuit of so many qubits
unfoldable pub gate_faults : ℕ → List (List ℕ) → List (Why × Bool)
gate_faults qubits words =
    (BadTime, not (is_number_below (2 ^ 32) (word 0 words)))
    ∷ (UnknownGate, is_none (kind_named (word 1 words)))
    ∷ (BadQubit, not (is_number_below qubits (word 2 words) && is_number_below qubits (word (last_place words) words)))
    ∷ (SameQubit, qubits_of (kind_in words) == 2 && value_of (word 2 words) == value_of (word 3 words))
    ∷ (Extra, nat_lt (last_place words + 1) (length words))
    ∷ []

-- a gate line behind others, whose gates are these
unfoldable pub order_faults : ℕ → List Gate → Gate → List (Why × Bool)
order_faults max_time before gate =
    (TimeBack, nat_lt gate.time (last_time before))
    ∷ (Overlap, list_any (overlaps gate) before)
    ∷ (TooManyGates, nat_le gate.time max_time && nat_le max_gates (length (kept max_time before)))
    ∷ []
