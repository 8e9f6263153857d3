-- How far a matrix on one qubit can widen numbers.
use Rattle.std.specs.Prelude.{ℕ, ◌+◌, List, [], ◌∷◌, max}
use Rattle.qh_ring.specs.declared.matrix.Entry.{Entry}
use Rattle.qh_ring.specs.declared.matrix.Entry.TheVariants.{Zero, Unit as Power}
use Rattle.qh_ring.specs.Matrices.{entry_in}

-- a row of two entries adds two numbers, which takes one more bit; any other row takes none
abbrev pub row_width : Entry → Entry → ℕ → ℕ
row_width Zero y bits = bits
row_width (Power i) Zero bits = bits
row_width (Power i) (Power j) bits = bits + 1

-- the wider of both rows
abbrev pub width_after : List (List Entry) → ℕ → ℕ
width_after rows bits = max (row_width (entry_in rows 0 0) (entry_in rows 0 1) bits) (row_width (entry_in rows 1 0) (entry_in rows 1 1) bits)

-- two rows of two entries
abbrev pub two_rows : Entry → Entry → Entry → Entry → List (List Entry)
two_rows x y z t = (x ∷ y ∷ []) ∷ (z ∷ t ∷ []) ∷ []
