-- The numbers in a matrix.
use Rattle.std.specs.Prelude.{ℕ, List, [], ◌∷◌, slice_index_or}
use Rattle.qh_ring.specs.declared.number.Omega.{Omega}
use Rattle.qh_ring.specs.declared.matrix.Entry.{Entry}
use Rattle.qh_ring.specs.declared.matrix.Entry.TheVariants.{Zero, Unit as Power}
use Rattle.qh_ring.specs.Numbers.{nothing, unit_power}

-- the number of an entry: 0, or w^j
abbrev pub number_of : Entry → Omega
number_of Zero = nothing
number_of (Power j) = unit_power j

-- the entry in a row and a column
abbrev pub entry_in : List (List Entry) → ℕ → ℕ → Entry
entry_in rows row column = slice_index_or (slice_index_or rows row []) column Zero

-- the number in a row and a column
abbrev pub number_in : List (List Entry) → ℕ → ℕ → Omega
number_in rows row column = number_of (entry_in rows row column)

-- the matrix of zeros on one qubit
abbrev pub zero_rows : List (List Entry)
zero_rows = (Zero ∷ Zero ∷ []) ∷ (Zero ∷ Zero ∷ []) ∷ []
