-- The table of the gates. An entry 'Power j' stands for w^j, where w^2 = i and w^4 = -1.
use Rattle.std.specs.Prelude.{◌==◌, ℕ, List, [], ◌∷◌, length, codes, if◌then◌else◌}
use Rattle.qh_ring.specs.declared.matrix.Entry.{Entry}
use Rattle.qh_ring.specs.declared.matrix.Entry.TheVariants.{Zero, Unit as Power}
use Rattle.qh_gates.specs.declared.kind.Kind.{Kind}
use Rattle.qh_gates.specs.declared.kind.Kind.TheVariants.{H, T, X, Y, Z, X12, Y12, Hz12, Cz, Cnot, Is, S, Sw, Id1, Id2}

-- a kind's name, its weight (1 where the matrix is multiplied by 1/sqrt 2) and its matrix without that factor
pub record Row : Type 0 where
  pub name : List ℕ
  pub weight : ℕ
  pub matrix : List (List Entry)

-- a row of two entries, and one of four
abbrev pub pair : Entry → Entry → List Entry
pair a b = a ∷ b ∷ []

abbrev pub four : Entry → Entry → Entry → Entry → List Entry
four a b c d = a ∷ b ∷ c ∷ d ∷ []

-- On two qubits, rows and columns have the index 2a + b, where a is the bit of the gate's first qubit.
abbrev pub row_of : Kind → Row
row_of H = record { name = codes "h"; weight = 1; matrix = pair (Power 0) (Power 0) ∷ pair (Power 0) (Power 4) ∷ [] }
row_of T = record { name = codes "t"; weight = 0; matrix = pair (Power 0) Zero ∷ pair Zero (Power 1) ∷ [] }
row_of X = record { name = codes "x"; weight = 0; matrix = pair Zero (Power 0) ∷ pair (Power 0) Zero ∷ [] }
row_of Y = record { name = codes "y"; weight = 0; matrix = pair Zero (Power 6) ∷ pair (Power 2) Zero ∷ [] }
row_of Z = record { name = codes "z"; weight = 0; matrix = pair (Power 0) Zero ∷ pair Zero (Power 4) ∷ [] }
row_of X12 = record { name = codes "x_1_2"; weight = 1; matrix = pair (Power 1) (Power 7) ∷ pair (Power 7) (Power 1) ∷ [] }
row_of Y12 = record { name = codes "y_1_2"; weight = 1; matrix = pair (Power 1) (Power 5) ∷ pair (Power 1) (Power 1) ∷ [] }
row_of Hz12 = record { name = codes "hz_1_2"; weight = 1; matrix = pair (Power 1) (Power 6) ∷ pair (Power 0) (Power 1) ∷ [] }
row_of Cz = record { name = codes "cz"; weight = 0; matrix = four (Power 0) Zero Zero Zero ∷ four Zero (Power 0) Zero Zero ∷ four Zero Zero (Power 0) Zero ∷ four Zero Zero Zero (Power 4) ∷ [] }
row_of Cnot = record { name = codes "cnot"; weight = 0; matrix = four (Power 0) Zero Zero Zero ∷ four Zero (Power 0) Zero Zero ∷ four Zero Zero Zero (Power 0) ∷ four Zero Zero (Power 0) Zero ∷ [] }
row_of Is = record { name = codes "is"; weight = 0; matrix = four (Power 0) Zero Zero Zero ∷ four Zero Zero (Power 2) Zero ∷ four Zero (Power 2) Zero Zero ∷ four Zero Zero Zero (Power 0) ∷ [] }
row_of S = record { name = codes "s"; weight = 0; matrix = pair (Power 0) Zero ∷ pair Zero (Power 2) ∷ [] }
row_of Sw = record { name = codes "sw"; weight = 0; matrix = four (Power 0) Zero Zero Zero ∷ four Zero Zero (Power 0) Zero ∷ four Zero (Power 0) Zero Zero ∷ four Zero Zero Zero (Power 0) ∷ [] }
row_of Id1 = record { name = codes "id1"; weight = 0; matrix = pair (Power 0) Zero ∷ pair Zero (Power 0) ∷ [] }
row_of Id2 = record { name = codes "id2"; weight = 0; matrix = four (Power 0) Zero Zero Zero ∷ four Zero (Power 0) Zero Zero ∷ four Zero Zero (Power 0) Zero ∷ four Zero Zero Zero (Power 0) ∷ [] }

abbrev pub name_text : Kind → List ℕ
name_text kind = (row_of kind).name

abbrev pub weight_of : Kind → ℕ
weight_of kind = (row_of kind).weight

abbrev pub matrix_of : Kind → List (List Entry)
matrix_of kind = (row_of kind).matrix

-- a matrix of two rows acts on one qubit, one of four rows on two
abbrev pub qubits_of : Kind → ℕ
qubits_of kind = if length (matrix_of kind) == 2 then 1 else 2
