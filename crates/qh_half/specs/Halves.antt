-- A half as contracts see it: its numbers, or none where it is over.
use Rattle.std.specs.Prelude.{◌≡◌, ℕ, ◌≤◌, ◌^◌, List, [], ◌∷◌, length, All, Option, Some, None, IfSome}
use Rattle.qh_limits.specs.Limits.{coefficient_bits, max_part_qubits}
use Rattle.qh_ring.specs.declared.number.Omega.{Omega}
use Rattle.qh_ring.specs.Numbers.{IsWithin}
use Rattle.qh_ring.specs.States.{applied_list}
use Rattle.qh_passes.specs.declared.turn.Turn.{Turn}
use Rattle.qh_passes.specs.Turns.{matrix_in, qubits_in}

pub record Half : Type 0 where
  pub qubits : ℕ
  pub numbers : Option (List Omega)

-- 2^qubits numbers, each within 126 bits
pub record IsVector (qubits : ℕ) (v : List Omega) : Type 0 where
  pub len : length v ≡ 2 ^ qubits
  pub within : All (IsWithin coefficient_bits) v

-- at most 20 qubits, and a vector where it is not over
pub record IsHalf (h : Half) : Type 0 where
  pub few : h.qubits ≤ max_part_qubits
  pub vector : IfSome h.numbers (IsVector h.qubits)

-- the numbers after a matrix, none where it was over or one of them comes to 2^126
abbrev pub AfterMatrix : (ℕ → ℕ → Omega) → List ℕ → Option (List Omega) → Option (List Omega) → Type 0
AfterMatrix m qs None new = new ≡ None
AfterMatrix m qs (Some v) None = ¬ All (IsWithin coefficient_bits) (applied_list m qs v)
AfterMatrix m qs (Some v) (Some w) = (w ≡ applied_list m qs v) × All (IsWithin coefficient_bits) w

-- the numbers after a run of turns, by those after its first turn
abbrev pub AfterTurns : List Turn → Option (List Omega) → Option (List Omega) → Type 0
AfterTurns [] old new = new ≡ old
AfterTurns (turn ∷ run) old new = (middle : Option (List Omega)) × AfterMatrix (matrix_in turn) (qubits_in turn) old middle × AfterTurns run middle new
