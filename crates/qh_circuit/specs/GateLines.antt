-- The words of a line, and the gate that a gate line spells: its time, its name and its qubits.
use Rattle.std.specs.Prelude.{ℕ, ◌+◌, ◌==◌, ◌&&◌, ◌||◌, Bool, List, [], slice_index_or, fold, filter, nat_le, is_some, unwrap_or}
use Rattle.qh_text.specs.Decimal.{number_below, value_of}
use Rattle.qh_gates.specs.declared.kind.Kind.{Kind}
use Rattle.qh_gates.specs.declared.kind.Kind.TheVariants.{H}
use Rattle.qh_gates.specs.declared.gate.Gate.{Gate}
use Rattle.qh_gates.specs.Tables.{qubits_of}
use Rattle.qh_gates.specs.Names.{kind_named}

-- a word of a line by its place, from 0; a word that is absent is empty, and so no number and no name
abbrev pub word : ℕ → List (List ℕ) → List ℕ
word place words = slice_index_or words place []

-- the word is a decimal number below the limit
abbrev pub is_number_below : ℕ → List ℕ → Bool
is_number_below limit text = is_some (number_below limit text)

-- the kind that the second word names, and any where it is no name
abbrev pub kind_in : List (List ℕ) → Kind
kind_in words = unwrap_or (kind_named (word 1 words)) H

-- the place of the gate's last qubit: its first stands at place 2
abbrev pub last_place : List (List ℕ) → ℕ
last_place words = 1 + qubits_of (kind_in words)

-- the gate that the words spell, where none of the faults of the line applies
unfoldable pub gate_of : List (List ℕ) → Gate
gate_of words = record {
  time = value_of (word 0 words);
  kind = kind_in words;
  q0 = value_of (word 2 words);
  q1 = value_of (word (last_place words) words);
}

-- the gate uses the qubit
abbrev pub uses : ℕ → Gate → Bool
uses qubit gate = gate.q0 == qubit || gate.q1 == qubit

-- the gate uses the qubit at this time
abbrev pub uses_at : ℕ → ℕ → Gate → Bool
uses_at time qubit gate = gate.time == time && uses qubit gate

-- the two gates have one time and a qubit in common
abbrev pub overlaps : Gate → Gate → Bool
overlaps gate other = other.time == gate.time && (uses gate.q0 other || uses gate.q1 other)

-- the time of the last of these gates, and 0 where there is none
abbrev pub last_time : List Gate → ℕ
last_time gates = fold (λ _ gate. gate.time) 0 gates

-- the gates up to the greatest time
abbrev pub kept : ℕ → List Gate → List Gate
kept max_time gates = filter (λ gate. nat_le gate.time max_time) gates
