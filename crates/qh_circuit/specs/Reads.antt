-- What stands at the front of the words of a line.
use Rattle.std.specs.Prelude.{◌≡◌, ℕ, ◌+◌, ◌-◌, ◌<◌, ◌&&◌, Bool, true, List, ◌∷◌, length, Some}
use Rattle.qh_text.specs.Decimal.{value_of}
use Rattle.qh_gates.specs.declared.kind.Kind.{Kind}
use Rattle.qh_gates.specs.Names.{kind_named}
use Rattle.qh_circuit.specs.GateLines.{word, is_number_below}

-- the first word spells this number, which is below the limit, and the others stand behind it
pub record BeginsWithNumber (limit : ℕ) (words : List (List ℕ)) (number : ℕ) (rest : List (List ℕ)) : Type 0 where
  pub spelled : is_number_below limit (word 0 words) ≡ true
  pub value : value_of (word 0 words) ≡ number
  pub below : number < limit
  pub behind : words ≡ word 0 words ∷ rest

-- the first word names this kind
pub record BeginsWithKind (words : List (List ℕ)) (kind : Kind) (rest : List (List ℕ)) : Type 0 where
  pub named : kind_named (word 0 words) ≡ Some kind
  pub behind : words ≡ word 0 words ∷ rest

-- the first word spells a qubit, and so does the last of as many words as the gate has qubits
abbrev pub have_qubits : ℕ → ℕ → List (List ℕ) → Bool
have_qubits qubits arity words = is_number_below qubits (word 0 words) && is_number_below qubits (word (arity - 1) words)

pub record BeginsWithQubits (qubits arity : ℕ) (words : List (List ℕ)) (q0 q1 : ℕ) (rest : List (List ℕ)) : Type 0 where
  pub spelled : have_qubits qubits arity words ≡ true
  pub first : value_of (word 0 words) ≡ q0
  pub last : value_of (word (arity - 1) words) ≡ q1
  pub first_below : q0 < qubits
  pub last_below : q1 < qubits
  pub one : arity ≡ 1 → q1 ≡ q0
  pub count : length words ≡ arity + length rest
