-- The items of a list of numbers: what stands between its commas.
use Rattle.std.specs.Prelude.{◌≡◌, ◌==◌, ℕ, ◌^◌, ◌<◌, List, [], ◌∷◌, length, slice_index_or, Option, Some, None, IsSome, if◌then◌else◌}
use Rattle.qh_text.specs.Decimal.{number_below}
use Rattle.qh_plan.specs.declared.fault.PlanFault.{PlanFault}
use Rattle.qh_plan.specs.declared.fault.PlanFault.TheVariants.{PartText}

-- a byte before the first of these items
abbrev pub lengthened : ℕ → List (List ℕ) → List (List ℕ)
lengthened b [] = []
lengthened b (item ∷ items) = (b ∷ item) ∷ items

-- what stands between the commas (44); the empty text is one empty item
abbrev pub items_of : List ℕ → List (List ℕ)
items_of [] = [] ∷ []
items_of (b ∷ bs) = if b == 44 then [] ∷ items_of bs else lengthened b (items_of bs)

-- the number of an item, if it is a decimal number of at most 2^32 - 1
abbrev pub number_at : List (List ℕ) → ℕ → Option ℕ
number_at items k = number_below (2 ^ 32) (slice_index_or items k [])

-- the items are these numbers
pub record AreNumbers (items : List (List ℕ)) (numbers : List ℕ) : Type 0 where
  pub count : length items ≡ length numbers
  pub spelled : (k : ℕ) → k < length numbers → number_at items k ≡ Some (slice_index_or numbers k 0)

-- the first item that is no number has this index
pub record IsFirstBad (items : List (List ℕ)) (index : ℕ) : Type 0 where
  pub within : index < length items
  pub bad : number_at items index ≡ None
  pub before : (k : ℕ) → k < index → IsSome (number_at items k)

-- an item is no number: the fault names the first
abbrev pub IsItemFault : List (List ℕ) → PlanFault → Type 0
IsItemFault items (PartText index) = IsFirstBad items index
IsItemFault items _ = ⊥
