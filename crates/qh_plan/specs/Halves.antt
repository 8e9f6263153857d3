-- What a circuit does along one path within one part, whose qubits are numbered anew from 0 in rising order.
use Rattle.std.specs.Prelude.{ℕ, Bool, if◌then◌else◌, List, [], ◌∷◌, map}
use Rattle.qh_ring.specs.declared.number.Omega.{Omega}
use Rattle.qh_ring.specs.Numbers.{product}
use Rattle.qh_ring.specs.Matrices.{number_in}
use Rattle.qh_ring.specs.States.{applied, ground}
use Rattle.qh_gates.specs.declared.gate.Gate.{Gate}
use Rattle.qh_gates.specs.Tables.{matrix_of}
use Rattle.qh_gates.specs.Terms.{term_at}
use Rattle.qh_gates.specs.Evolution.{Operation, evolved, wires}
use Rattle.qh_plan.specs.Parts.{others, count_below, local_index}
use Rattle.qh_plan.specs.Paths.{crosses}
use Rattle.qh_plan.specs.Jobs.{Job, in_one, digits_of}
use Rattle.qh_plan.specs.PathValues.{first_digit, other_digits}

-- a crossing gate acts on the part by its term's factor there
abbrev pub factor_operation : (ℕ → Bool) → Gate → ℕ → Operation
factor_operation one g t =
    if one g.q0
    then record { matrix = number_in (term_at g.kind t).first; qubits = count_below one g.q0 ∷ [] }
    else record { matrix = number_in (term_at g.kind t).second; qubits = count_below one g.q1 ∷ [] }

-- a gate inside the part acts by its matrix
abbrev pub local_operation : (ℕ → Bool) → Gate → Operation
local_operation one g = record { matrix = number_in (matrix_of g.kind); qubits = map (count_below one) (wires g) }

-- the operations of the part along a path; a gate inside the other part does nothing here
abbrev pub half_operations : (ℕ → Bool) → List Gate → List ℕ → List Operation
half_operations one [] ds = []
half_operations one (g ∷ gs) ds =
    if crosses one g
    then factor_operation one g (first_digit ds) ∷ half_operations one gs (other_digits ds)
    else (if one g.q0 then local_operation one g ∷ half_operations one gs ds else half_operations one gs ds)

-- the states after each operation, in order: the half's trace is this list from its state with all qubits 0
abbrev pub trace : (ℕ → Omega) → List Operation → List (ℕ → Omega)
trace v [] = []
trace v (o ∷ os) = applied o.matrix o.qubits v ∷ trace (applied o.matrix o.qubits v) os

-- the last of them
abbrev pub half_state : (ℕ → Bool) → List Gate → List ℕ → ℕ → Omega
half_state one gates ds = evolved ground (half_operations one gates ds)

-- the half amplitude of b in a part along path k: the half's number at b's bits in that part
abbrev pub half_amplitude : (ℕ → Bool) → Job → ℕ → ℕ → Omega
half_amplitude one j k b = half_state one j.circuit.gates (digits_of j k) (local_index one j.circuit.qubits b)

-- those of part 1 and of part 2
abbrev pub half_one : Job → ℕ → ℕ → Omega
half_one j k b = half_amplitude (in_one j) j k b

abbrev pub half_two : Job → ℕ → ℕ → Omega
half_two j k b = half_amplitude (others (in_one j)) j k b

-- what path k contributes to the sum of b
abbrev pub contribution : Job → ℕ → ℕ → Omega
contribution j k b = product (half_one j k b) (half_two j k b)
