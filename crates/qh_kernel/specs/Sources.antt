-- Where the new numbers come from, for a matrix each of whose rows has at most one entry.
use Rattle.std.specs.Prelude.{◌≡◌, ℕ, zero, suc, ◌<◌, List, [], Option, Some, None, slice_index_or, slice_set}
use Rattle.qh_ring.specs.declared.number.Omega.{Omega}
use Rattle.qh_ring.specs.declared.matrix.Entry.{Entry}
use Rattle.qh_ring.specs.declared.matrix.Entry.TheVariants.{Zero}
use Rattle.qh_ring.specs.Numbers.{product, nothing, unit_power}
use Rattle.qh_ring.specs.Matrices.{number_of}
use Rattle.qh_ring.specs.States.{sum_below, at_index}
use Rattle.qh_kernel.specs.declared.sources.Source.{Source}
use Rattle.qh_kernel.specs.declared.sources.Source.TheVariants.{Same, Nothing, Turned}

-- the number that a source gives where the old numbers are f, or none where the number stays
abbrev pub value_of : Source → (ℕ → Omega) → Option Omega
value_of Same f = None
value_of Nothing f = Some nothing
value_of (Turned column power) f = Some (product (unit_power power) (f column))

-- the number, or else the old one
abbrev pub or_old : Option Omega → Omega → Omega
or_old None z = z
or_old (Some y) z = y

-- the column is below k and the power below the eighth
abbrev pub HasPlace : ℕ → Source → Type 0
HasPlace k Same = Unit {0}
HasPlace k Nothing = Unit {0}
HasPlace k (Turned column power) = (column < k) × (power < 8)

-- what row number r of k entries makes of the old numbers is what the source gives
pub record IsSource (k : ℕ) (row : List Entry) (r : ℕ) (source : Source) : Type 0 where
  pub place : HasPlace k source
  pub value : (f : ℕ → Omega) → sum_below k (λ c. product (number_of (slice_index_or row c Zero)) (f c)) ≡ or_old (value_of source f) (f r)

-- the source of one of k rows
abbrev pub source_at : List Source → ℕ → Source
source_at sources r = slice_index_or sources r Same

-- each of k columns
abbrev pub HasPlaces : ℕ → List Source → Type 0
HasPlaces k sources = (r : ℕ) → r < k → HasPlace k (source_at sources r)

-- the sources of k rows
abbrev pub AreSources : ℕ → List (List Entry) → List Source → Type 0
AreSources k rows sources = (r : ℕ) → r < k → IsSource k (slice_index_or rows r []) r (source_at sources r)

-- a number written at a place, where there is one
abbrev pub put_at : List Omega → ℕ → Option Omega → List Omega
put_at v place None = v
put_at v place (Some z) = slice_set v place z

-- k numbers written at k places, where there is one
abbrev pub put_all : ℕ → (ℕ → ℕ) → (ℕ → Option Omega) → List Omega → List Omega
put_all zero place number v = v
put_all (suc k) place number v = put_at (put_all k place number v) (place k) (number k)

-- the list after k sources, each at its place, all read before the first write
abbrev pub moved : ℕ → List Source → List ℕ → List Omega → List Omega
moved k sources places v = put_all k (λ r. slice_index_or places r 0) (λ r. value_of (source_at sources r) (λ c. at_index v (slice_index_or places c 0))) v
