-- What a matrix keeps of its entries. It names no struct that has a ghost field.
use Rattle.std.specs.Prelude.{nat_lt, Bool, true, List}
use Rattle.std.specs.List.{list_all}
use Rattle.qh_ring.specs.declared.matrix.Entry.{Entry}
use Rattle.qh_ring.specs.declared.matrix.Entry.TheVariants.{Zero, Unit as Power}

-- the entry is 0 or a power of w below the eighth
abbrev pub is_unit : Entry → Bool
is_unit Zero = true
is_unit (Power j) = nat_lt j 8

-- so is each entry of each row
abbrev pub are_units : List (List Entry) → Bool
are_units rows = list_all (λ row. list_all is_unit row) rows
