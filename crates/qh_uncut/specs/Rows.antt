-- Rows of which at most one entry is not 0.
use Rattle.std.specs.Prelude.{◌≡◌, ℕ, ◌<◌, List, [], Option, Some, None, slice_index_or}
use Rattle.qh_ring.specs.declared.number.Omega.{Omega}
use Rattle.qh_ring.specs.declared.matrix.Entry.{Entry}
use Rattle.qh_ring.specs.declared.matrix.Entry.TheVariants.{Zero}
use Rattle.qh_ring.specs.Numbers.{product, nothing, unit_power}
use Rattle.qh_ring.specs.Matrices.{number_of}
use Rattle.qh_ring.specs.States.{sum_below}
use Rattle.qh_uncut.specs.declared.entries.Turn.{Turn}

-- what the only entry of a row makes of the numbers f
abbrev pub turned_number : Option Turn → (ℕ → Omega) → Omega
turned_number None f = nothing
turned_number (Some turn) f = product (unit_power turn.power) (f turn.column)

-- its column is one of k, and its power below the eighth
abbrev pub HasColumn : ℕ → Option Turn → Type 0
HasColumn k None = Unit {0}
HasColumn k (Some turn) = (turn.column < k) × (turn.power < 8)

-- what the row of k entries makes of any numbers is what its only entry makes of them
pub record IsOnly (k : ℕ) (row : List Entry) (only : Option Turn) : Type 0 where
  pub column : HasColumn k only
  pub value : (f : ℕ → Omega) → sum_below k (λ c. product (number_of (slice_index_or row c Zero)) (f c)) ≡ turned_number only f

-- so it is in each of four rows
abbrev pub AreOnly : List (List Entry) → List (Option Turn) → Type 0
AreOnly rows onlys = (r : ℕ) → r < 4 → IsOnly 4 (slice_index_or rows r []) (slice_index_or onlys r None)
