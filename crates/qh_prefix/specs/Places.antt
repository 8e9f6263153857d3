-- A circuit's gates as they act in one part, whose qubits are numbered anew from 0 in rising order.
use Rattle.std.specs.Prelude.{◌≡◌, ◌≢◌, ◌==◌, ℕ, ◌<◌, Bool, if◌then◌else◌, List, [], ◌∷◌, ◌++◌, length, drop, Option, Some, None}
use Rattle.std.specs.List.{filter_map}
use Rattle.qh_ring.specs.Matrices.{number_in}
use Rattle.qh_gates.specs.declared.gate.Gate.{Gate}
use Rattle.qh_gates.specs.Tables.{matrix_of, qubits_of}
use Rattle.qh_gates.specs.Terms.{terms_of, term_at}
use Rattle.qh_gates.specs.Evolution.{Operation}
use Rattle.qh_plan.specs.PathValues.{first_digit}
use Rattle.qh_prefix.specs.declared.place.Placed.{Placed}
use Rattle.qh_prefix.specs.declared.place.Placed.TheVariants.{OnOne, OnTwo, FirstHere, SecondHere}
use Rattle.qh_prefix.specs.Parts.{number_of}

-- a gate whose qubits have these numbers in the part, none being in the other part; none where it does nothing here
abbrev pub place_at : Gate → Option ℕ → Option ℕ → Option Placed
place_at g None None = None
place_at g None (Some q) = Some (SecondHere g.kind q)
place_at g (Some p) None = Some (FirstHere g.kind p)
place_at g (Some p) (Some q) = Some (if qubits_of g.kind == 2 then OnTwo g.kind p q else OnOne g.kind p)

abbrev pub place : (ℕ → Bool) → Gate → Option Placed
place one g = place_at g (number_of one g.q0) (number_of one g.q1)

-- the gates that act in the part, in their order
abbrev pub placed : (ℕ → Bool) → List Gate → List Placed
placed one gates = filter_map (place one) gates

-- what it does to the part's state: a gate across the cut acts by the factor of its term t, any other by its matrix
abbrev pub operation_by : Placed → ℕ → Operation
operation_by (OnOne kind q) t = record { matrix = number_in (matrix_of kind); qubits = q ∷ [] }
operation_by (OnTwo kind p q) t = record { matrix = number_in (matrix_of kind); qubits = p ∷ q ∷ [] }
operation_by (FirstHere kind q) t = record { matrix = number_in (term_at kind t).first; qubits = q ∷ [] }
operation_by (SecondHere kind q) t = record { matrix = number_in (term_at kind t).second; qubits = q ∷ [] }

-- how many terms it has across the cut; a gate inside the part has no such number
abbrev pub choices : Placed → List ℕ
choices (OnOne kind q) = []
choices (OnTwo kind p q) = []
choices (FirstHere kind q) = length (terms_of kind) ∷ []
choices (SecondHere kind q) = length (terms_of kind) ∷ []

-- those of all the gates across the cut, in order
abbrev pub term_counts : List Placed → List ℕ
term_counts [] = []
term_counts (p ∷ ps) = choices p ++ term_counts ps

-- what they do along a path: each gate across the cut takes the next digit
abbrev pub operations : List Placed → List ℕ → List Operation
operations [] ds = []
operations (p ∷ ps) ds = operation_by p (first_digit ds) ∷ operations ps (drop (length (choices p)) ds)

-- its qubits are below n and two of them differ
abbrev pub IsPlacedIn : ℕ → Placed → Type 0
IsPlacedIn n (OnOne kind q) = (qubits_of kind ≡ 1) × (q < n)
IsPlacedIn n (OnTwo kind p q) = (qubits_of kind ≡ 2) × (p < n) × (q < n) × (p ≢ q)
IsPlacedIn n (FirstHere kind q) = (qubits_of kind ≡ 2) × (q < n)
IsPlacedIn n (SecondHere kind q) = (qubits_of kind ≡ 2) × (q < n)

-- t is the number of one of its terms, where it crosses the cut
abbrev pub HasTerm : ℕ → Placed → Type 0
HasTerm t (OnOne kind q) = Unit {0}
HasTerm t (OnTwo kind p q) = Unit {0}
HasTerm t (FirstHere kind q) = t < length (terms_of kind)
HasTerm t (SecondHere kind q) = t < length (terms_of kind)
