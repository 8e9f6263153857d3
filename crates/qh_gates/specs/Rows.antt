-- What a row of the code's table holds.
use Rattle.std.specs.Prelude.{◌≡◌, List}
use Rattle.qh_ring.specs.declared.matrix.Entry.{Entry}
use Rattle.qh_gates.specs.declared.kind.Matrix.{Matrix}
use Rattle.qh_gates.specs.declared.kind.Matrix.TheVariants.{One, Two}

abbrev pub HasRows : Matrix → List (List Entry) → Type 0
HasRows (One m) rows = m.rows ≡ rows
HasRows (Two m) rows = m.rows ≡ rows
