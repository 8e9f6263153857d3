-- The paths of a cut. A path picks one term of each gate that crosses the cut, in the order of the circuit.
use Rattle.std.specs.Prelude.{ℕ, ◌+◌, ◌*◌, ◌/◌, ◌%◌, Bool, true, false, not, if◌then◌else◌, List, [], ◌∷◌, length}
use Rattle.qh_gates.specs.declared.gate.Gate.{Gate}
use Rattle.qh_gates.specs.Terms.{terms_of}

-- whether just one of the two holds
abbrev pub differ : Bool → Bool → Bool
differ true b = not b
differ false b = b

-- whether the gate's qubits lie in different parts
abbrev pub crosses : (ℕ → Bool) → Gate → Bool
crosses one g = differ (one g.q0) (one g.q1)

-- how many terms each crossing gate has, in the order of the circuit
abbrev pub radices : (ℕ → Bool) → List Gate → List ℕ
radices one [] = []
radices one (g ∷ gs) = if crosses one g then length (terms_of g.kind) ∷ radices one gs else radices one gs

-- how many paths there are
abbrev pub path_count : List ℕ → ℕ
path_count [] = 1
path_count (r ∷ rs) = r * path_count rs

-- a path's number in mixed radix, the first digit the most significant
abbrev pub path_number : List ℕ → List ℕ → ℕ
path_number [] ds = 0
path_number (r ∷ rs) [] = 0
path_number (r ∷ rs) (d ∷ ds) = d * path_count rs + path_number rs ds

-- the digits of a path's number: for each crossing gate the term that the path picks
abbrev pub path_digits : List ℕ → ℕ → List ℕ
path_digits [] k = []
path_digits (r ∷ rs) k = k / path_count rs ∷ path_digits rs (k % path_count rs)
