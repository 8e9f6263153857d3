-- What a circuit does along one path of a cut, as a state of all qubits.
use Rattle.std.specs.Prelude.{ℕ, Bool, if◌then◌else◌, List, [], ◌∷◌}
use Rattle.qh_ring.specs.declared.number.Omega.{Omega}
use Rattle.qh_ring.specs.States.{ground}
use Rattle.qh_gates.specs.declared.gate.Gate.{Gate}
use Rattle.qh_gates.specs.Terms.{term_at, term_matrix}
use Rattle.qh_gates.specs.Evolution.{Operation, evolved, operation_of}
use Rattle.qh_plan.specs.Paths.{crosses}
use Rattle.qh_plan.specs.Jobs.{Job, in_one, digits_of}

-- the digit of the next crossing gate, and those of the gates after it
abbrev pub first_digit : List ℕ → ℕ
first_digit [] = 0
first_digit (d ∷ ds) = d

abbrev pub other_digits : List ℕ → List ℕ
other_digits [] = []
other_digits (d ∷ ds) = ds

-- a term of a gate, on the gate's qubits
abbrev pub term_operation : Gate → ℕ → Operation
term_operation g t = record { matrix = term_matrix (term_at g.kind t); qubits = g.q0 ∷ g.q1 ∷ [] }

-- the gates, each that crosses the cut replaced by the term that the path picks
abbrev pub path_operations : (ℕ → Bool) → List Gate → List ℕ → List Operation
path_operations one [] ds = []
path_operations one (g ∷ gs) ds =
    if crosses one g
    then term_operation g (first_digit ds) ∷ path_operations one gs (other_digits ds)
    else operation_of g ∷ path_operations one gs ds

-- the state after them, from the state with all qubits 0
abbrev pub path_state : (ℕ → Bool) → List Gate → List ℕ → ℕ → Omega
path_state one gates ds = evolved ground (path_operations one gates ds)

-- the number that path k of a job gives the index b
abbrev pub path_amplitude : Job → ℕ → ℕ → Omega
path_amplitude j k b = path_state (in_one j) j.circuit.gates (digits_of j k) b
