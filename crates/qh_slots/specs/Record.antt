-- The slots that a run begins and ends with.
use Rattle.std.specs.Prelude.{◌≡◌, ◌⊎◌, ℕ, ◌<◌, Bool, true, List, [], ◌∷◌, map, is_none, IsSome, IfSome, IsSomeAnd, Option, Some, None, option_map, option_and_then, if◌then◌else◌}
use Rattle.std.specs.List.{count_by, range_with_len}
use Rattle.qh_plan.specs.declared.verdict.Verdict.{Verdict}
use Rattle.qh_plan.specs.Jobs.{Job, ranges}
use Rattle.qh_plan.specs.Values.{range_value}
use Rattle.qh_disk.specs.Disk.{Face}
use Rattle.qh_slots.specs.Stands.{Slots, slot_at, nones, Stands}
use Rattle.qh_slots.specs.Attaching.{slots_of, slots1_of}

-- How a run keeps its record: whether in a journal; whether that is emptied first; and whether an empty one takes over an old journal.
pub record Keeping : Type 0 where
  pub kept : Bool
  pub fresh : Bool
  pub taking : Bool

-- a journal that reads as f counts as this: as empty where it is emptied first
abbrev pub counted : Keeping → List ℕ → List ℕ
counted k f = if k.fresh then [] else f

-- the slots that an empty journal gives the run: those of the old one that is taken over, as far as that is told, and else none
abbrev pub taken_over : Keeping → Job → Option (List ℕ) → Option Slots
taken_over k j old = if k.taking then option_map (slots1_of j) old else Some (nones j)

-- and those that any journal gives it: what it stands for
abbrev pub given : Keeping → Job → List ℕ → Option (List ℕ) → Option Slots
given k j [] old = taken_over k j old
given k j (b ∷ bs) old = Some (slots_of j (b ∷ bs))

-- the value of each range
abbrev pub values : Job → Slots
values j = map (λ r. Some (range_value j r)) (range_with_len 0 (ranges j))

-- S0, the slots that the run begins with, as far as the disks tell; without a journal there are none
abbrev pub slots_before : Keeping → Job → Face → Face → Option Slots
slots_before k j disk old = if k.kept then option_and_then (λ f. given k j (counted k f) old.content) disk.content else Some (nones j)

-- S1, the slots that it ends with; without a journal all ranges have their values
abbrev pub slots_after : Keeping → Job → Face → Option Slots
slots_after k j after = if k.kept then option_map (slots_of j) after.content else Some (values j)

-- P of S0 and S1, where both are told
abbrev pub IfTold : Keeping → Job → Face → Face → Face → (Slots → Slots → Type 0) → Type 0
IfTold k j disk old after P = IfSome (slots_before k j disk old) (λ s0. IfSome (slots_after k j after) (λ s1. P s0 s1))

-- these are S1, where that is told
abbrev pub IsEnd : Keeping → Job → Face → Slots → Type 0
IsEnd k j after s = IfSome (slots_after k j after) (λ s1. s ≡ s1)

-- the slots of s0 stand in s1 unchanged, and each other slot of s1 holds its range's value
pub record Extends (j : Job) (s0 s1 : Slots) : Type 0 where
  pub kept : (r : ℕ) (v : Verdict) → slot_at s0 r ≡ Some v → slot_at s1 r ≡ Some v
  pub added : (r : ℕ) (v : Verdict) → slot_at s0 r ≡ None → slot_at s1 r ≡ Some v → v ≡ range_value j r

-- each range has a slot; none has
abbrev pub IsFull : Job → Slots → Type 0
IsFull j s = (r : ℕ) → r < ranges j → IsSome (slot_at s r)

abbrev pub IsBare : Slots → Type 0
IsBare s = (r : ℕ) → slot_at s r ≡ None

-- the old journal is to be taken over: that is asked for, and the journal counts as empty
abbrev pub Migrates : Keeping → Face → Type 0
Migrates k disk = (k.taking ≡ true) × IsSomeAnd disk.content (λ f. counted k f ≡ [])

-- the slots grew, or those of the old journal were not taken over yet
abbrev pub Grows : Keeping → Job → Face → Slots → Slots → Type 0
Grows k j disk s0 s1 = Extends j s0 s1 ⊎ (Migrates k disk × IsBare s1)

-- the journal was finished at entry
abbrev pub IsFinished : Job → Face → Type 0
IsFinished j disk = IsSomeAnd disk.content (λ f. (s : Slots) × Stands j s f × IsFull j s)

-- how many ranges have no slot
abbrev pub count_bare : Job → Slots → ℕ
count_bare j s = count_by (λ r. is_none (slot_at s r)) (range_with_len 0 (ranges j))
