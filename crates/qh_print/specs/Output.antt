-- The output text: a line for each asked bitstring, with the canonical form of its amplitude.
use Rattle.std.specs.Prelude.{◌≡◌, ℕ, ◌^◌, ◌<◌, ◌≤◌, List, [], ◌∷◌, ◌++◌, decimal}
use Rattle.std.specs.Fmt.{signed_decimal}
use Rattle.qh_ring.specs.declared.number.Omega.{Omega}
use Rattle.qh_ring.specs.declared.canon.Canon.{Canon}
use Rattle.qh_ring.specs.Numbers.{IsCanon, IsWithin}
use Rattle.qh_limits.specs.Limits.{coefficient_bits, max_gates}
use Rattle.qh_text.specs.Bitstrings.{bits_text}
use Rattle.qh_text.specs.Words.{word_of}

-- bits a b c d k: the number (a + b w + c w^2 + d w^3) / sqrt 2 ^ k
unfoldable pub value_line : ℕ → ℕ → Canon → List ℕ
value_line qubits x v =
    bits_text qubits x ++ word_of (signed_decimal v.z.a) ++ word_of (signed_decimal v.z.b) ++ word_of (signed_decimal v.z.c)
    ++ word_of (signed_decimal v.z.d) ++ word_of (decimal v.k) ++ 10 ∷ []

-- a value that a line can show: its coefficients within their bits, the power of sqrt 2 at most one a gate, and its own
-- canonical form
pub record IsShowable (v : Canon) : Type 0 where
  pub bounded : IsWithin coefficient_bits v.z
  pub shallow : v.k ≤ max_gates
  pub canonical : IsCanon v.z v.k v

-- the bytes are the one line of the bitstring and the value
pub record IsLine (qubits x : ℕ) (v : Canon) (bytes : List ℕ) : Type 0 where
  pub below : x < 2 ^ qubits
  pub showable : IsShowable v
  pub spelled : bytes ≡ value_line qubits x v

-- the text has a line for each index and its value over sqrt 2 ^ k, in their order
abbrev pub IsText : ℕ → ℕ → List ℕ → List Omega → List ℕ → Type 0
IsText qubits k [] values text = text ≡ []
IsText qubits k (x ∷ xs) [] text = ⊥
IsText qubits k (x ∷ xs) (z ∷ zs) text =
    (v : Canon) × (rest : List ℕ) × IsCanon z k v × IsText qubits k xs zs rest × (text ≡ value_line qubits x v ++ rest)
