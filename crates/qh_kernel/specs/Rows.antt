-- The rows of a matrix.
use Rattle.std.specs.Prelude.{nat_le, Bool, true, false, List, count_by}
use Rattle.std.specs.List.{list_all}
use Rattle.qh_ring.specs.declared.number.Omega.{Omega}
use Rattle.qh_ring.specs.declared.matrix.Entry.{Entry}
use Rattle.qh_ring.specs.declared.matrix.Entry.TheVariants.{Zero, Unit as Power}
use Rattle.qh_ring.specs.Numbers.{sum, product}

-- the entry is not 0
abbrev pub is_entry : Entry → Bool
is_entry Zero = false
is_entry (Power j) = true

-- at most one entry of the row is not 0
abbrev pub is_single : List Entry → Bool
is_single row = nat_le (count_by is_entry row) 1

-- so is each row
abbrev pub are_single : List (List Entry) → Bool
are_single rows = list_all is_single rows

-- what a row of two numbers makes of a pair
abbrev pub row_sum2 : Omega → Omega → Omega → Omega → Omega
row_sum2 m n x y = sum (product m x) (product n y)
