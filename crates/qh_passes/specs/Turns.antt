-- A matrix with its qubits, and runs of them.
use Rattle.std.specs.Prelude.{◌≢◌, ℕ, ◌<◌, IsTrue, List, [], ◌∷◌, All}
use Rattle.qh_ring.specs.declared.number.Omega.{Omega}
use Rattle.qh_ring.specs.Numbers.{IsWithin}
use Rattle.qh_ring.specs.Matrices.{number_in}
use Rattle.qh_ring.specs.States.{applied_list}
use Rattle.qh_kernel.specs.Rows.{are_single}
use Rattle.qh_blocks.specs.Widths.{width_after}
use Rattle.qh_passes.specs.declared.turn.Turn.{Turn}
use Rattle.qh_passes.specs.declared.turn.Turn.TheVariants.{One, Two}

-- the numbers in its matrix
abbrev pub matrix_in : Turn → ℕ → ℕ → Omega
matrix_in (One matrix qubit) = number_in matrix.rows
matrix_in (Two matrix first second) = number_in matrix.rows

-- the qubits that it acts on
abbrev pub qubits_in : Turn → List ℕ
qubits_in (One matrix qubit) = qubit ∷ []
qubits_in (Two matrix first second) = first ∷ second ∷ []

-- what it makes of a list of numbers
abbrev pub turned : Turn → List Omega → List Omega
turned turn v = applied_list (matrix_in turn) (qubits_in turn) v

-- what a run makes of a list of numbers, the first turn first
abbrev pub after_turns : List Turn → List Omega → List Omega
after_turns [] v = v
after_turns (turn ∷ run) v = after_turns run (turned turn v)

-- its qubits are below n; two of them differ, and each row of their matrix has at most one entry
abbrev pub IsTurnIn : ℕ → Turn → Type 0
IsTurnIn n (One matrix qubit) = qubit < n
IsTurnIn n (Two matrix first second) = (first < n) × (second < n) × (first ≢ second) × IsTrue (are_single matrix.rows)

-- how wide it makes numbers of so many bits
abbrev pub width_turned : Turn → ℕ → ℕ
width_turned (One matrix qubit) bits = width_after matrix.rows bits
width_turned (Two matrix first second) bits = bits

-- how wide a run makes them
abbrev pub width_after_turns : List Turn → ℕ → ℕ
width_after_turns [] bits = bits
width_after_turns (turn ∷ run) bits = width_after_turns run (width_turned turn bits)

-- the numbers are within so many bits at first and after each turn of the run
abbrev pub StayWithin : ℕ → List Turn → List Omega → Type 0
StayWithin bits [] v = All (IsWithin bits) v
StayWithin bits (turn ∷ run) v = All (IsWithin bits) v × StayWithin bits run (turned turn v)
