-- The terms of a gate on two qubits: the sum of their products is its matrix. Each term is a factor for the gate's
-- first qubit and one for its second, so across a cut each factor acts on its own part.
use Rattle.std.specs.Prelude.{◌≡◌, ℕ, ◌/◌, ◌%◌, ◌<◌, Bool, if◌then◌else◌, List, [], ◌∷◌, length, slice_index_or}
use Rattle.qh_ring.specs.declared.number.Omega.{Omega}
use Rattle.qh_ring.specs.declared.matrix.Entry.{Entry}
use Rattle.qh_ring.specs.declared.matrix.Entry.TheVariants.{Zero, Unit as Power}
use Rattle.qh_ring.specs.Numbers.{product}
use Rattle.qh_ring.specs.Matrices.{number_in}
use Rattle.qh_ring.specs.States.{sum_below}
use Rattle.qh_gates.specs.declared.kind.Kind.{Kind}
use Rattle.qh_gates.specs.declared.kind.Kind.TheVariants.{X, Z, Cz, Cnot, Is, Sw, Id2}
use Rattle.qh_gates.specs.Tables.{pair, matrix_of}

-- the rows of the two factors of a term
pub record Factors : Type 0 where
  pub first : List (List Entry)
  pub second : List (List Entry)

-- |0><0|, |1><1| and the identity
abbrev pub project0 : List (List Entry)
project0 = pair (Power 0) Zero ∷ pair Zero Zero ∷ []

abbrev pub project1 : List (List Entry)
project1 = pair Zero Zero ∷ pair Zero (Power 0) ∷ []

abbrev pub identity : List (List Entry)
identity = pair (Power 0) Zero ∷ pair Zero (Power 0) ∷ []

-- w^j |0><1| and w^j |1><0|
abbrev pub lowering : ℕ → List (List Entry)
lowering j = pair Zero (Power j) ∷ pair Zero Zero ∷ []

abbrev pub raising : ℕ → List (List Entry)
raising j = pair Zero Zero ∷ pair (Power j) Zero ∷ []

-- the terms of a kind in order; a kind on one qubit has none
abbrev pub terms_of : Kind → List Factors
terms_of Cz = record { first = project0; second = identity }
    ∷ record { first = project1; second = matrix_of Z } ∷ []
terms_of Cnot = record { first = project0; second = identity }
    ∷ record { first = project1; second = matrix_of X } ∷ []
terms_of Is = record { first = project0; second = project0 }
    ∷ record { first = project1; second = project1 }
    ∷ record { first = lowering 2; second = raising 0 }
    ∷ record { first = raising 2; second = lowering 0 } ∷ []
terms_of Sw = record { first = project0; second = project0 }
    ∷ record { first = project1; second = project1 }
    ∷ record { first = lowering 0; second = raising 0 }
    ∷ record { first = raising 0; second = lowering 0 } ∷ []
terms_of Id2 = record { first = identity; second = identity } ∷ []
terms_of _ = []

-- the term of a number; past the last one both factors are empty
abbrev pub term_at : Kind → ℕ → Factors
term_at kind t = slice_index_or (terms_of kind) t (record { first = []; second = [] })

-- a term with its two factors exchanged
abbrev pub exchanged : Factors → Factors
exchanged t = record { first = t.second; second = t.first }

-- a term by the parts of a cut: exchanged where the gate's first qubit lies in part 2
abbrev pub arranged : Bool → Factors → Factors
arranged swapped t = if swapped then exchanged t else t

-- the matrix on two qubits made of one on each: the entry [ab][a'b'] is first[a][a'] times second[b][b']
abbrev pub together : (ℕ → ℕ → Omega) → (ℕ → ℕ → Omega) → ℕ → ℕ → Omega
together first second row column = product (first (row / 2) (column / 2)) (second (row % 2) (column % 2))

-- the matrix of a term
abbrev pub term_matrix : Factors → ℕ → ℕ → Omega
term_matrix t = together (number_in t.first) (number_in t.second)

-- each entry of a kind's matrix is the sum of its terms' entries there
abbrev pub AddsUp : Kind → Type 0
AddsUp kind = (i : ℕ) → i < 4 → (j : ℕ) → j < 4
    → sum_below (length (terms_of kind)) (λ t. term_matrix (term_at kind t) i j) ≡ number_in (matrix_of kind) i j
