-- The marked numbers of a list of marks.
use Rattle.std.specs.Prelude.{◌≡◌, ℕ, ◌<◌, ◌≤◌, ◌+◌, ◌/◌, ◌*◌, Bool, true, false, List, length, slice_index_or}

-- whether a number is marked; none is past the end
abbrev pub is_marked : List Bool → ℕ → Bool
is_marked marks place = slice_index_or marks place false

-- no number from one up to another is marked
abbrev pub NoneMarked : List Bool → ℕ → ℕ → Type 0
NoneMarked marks from end = (place : ℕ) → from ≤ place → place < end → is_marked marks place ≡ false

-- the lowest marked number at or above from
pub record IsLowestMarked (marks : List Bool) (from place : ℕ) : Type 0 where
  pub above : from ≤ place
  pub marked : is_marked marks place ≡ true
  pub lowest : NoneMarked marks from place

-- a block without its flag has no marked number
pub record AreFlagged (block : ℕ) (marks flags : List Bool) : Type 0 where
  pub covered : length marks ≤ block * length flags
  pub tight : block * length flags < length marks + block
  pub flagged : (place : ℕ) → is_marked marks place ≡ true → is_marked flags (place / block) ≡ true
