-- The two parts of a job's cut, as tests of qubits.
use Rattle.std.specs.Prelude.{ℕ, zero, suc, ◌+◌, ◌*◌, Bool, ◌||◌, if◌then◌else◌, count_by, List, [], ◌∷◌, ◌++◌, Option, Some, None}
use Rattle.std.specs.Int.{bit_at}
use Rattle.qh_plan.specs.Parts.{others, count_below}
use Rattle.qh_plan.specs.Jobs.{Job, in_one}
use Rattle.qh_gates.specs.declared.gate.Gate.{Gate}
use Rattle.qh_prefix.specs.declared.part.Part.{Part}
use Rattle.qh_prefix.specs.declared.part.Part.TheVariants.{One, Two}

-- whether the qubit lies in the part
abbrev pub in_part : Part → Job → ℕ → Bool
in_part One j = in_one j
in_part Two j = others (in_one j)

-- how many qubits the part has
abbrev pub width : Part → Job → ℕ
width part j = count_below (in_part part j) j.circuit.qubits

-- whether the gate acts on a qubit of the part
abbrev pub acts_in : (ℕ → Bool) → Gate → Bool
acts_in one g = one g.q0 || one g.q1

-- how many gates act in the part
abbrev pub gates_in : Part → Job → ℕ
gates_in part j = count_by (acts_in (in_part part j)) j.circuit.gates

-- the qubits of a part below n, in rising order
abbrev pub qubits_below : (ℕ → Bool) → ℕ → List ℕ
qubits_below one zero = []
qubits_below one (suc n) = if one n then qubits_below one n ++ n ∷ [] else qubits_below one n

-- the number of a qubit within the part, none where it lies in the other
abbrev pub number_of : (ℕ → Bool) → ℕ → Option ℕ
number_of one q = if one q then Some (count_below one q) else None

-- those of the qubits below n
abbrev pub numbers_below : (ℕ → Bool) → ℕ → List (Option ℕ)
numbers_below one zero = []
numbers_below one (suc n) = numbers_below one n ++ number_of one n ∷ []

-- the bits of x at these qubits, the first of them least
abbrev pub index_on : List ℕ → ℕ → ℕ
index_on [] x = 0
index_on (q ∷ qs) x = bit_at x q + 2 * index_on qs x
