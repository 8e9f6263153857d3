-- A group of verdicts that are stored together.
use Rattle.std.specs.Prelude.{◌≡◌, ◌≢◌, ◌<◌, ◌≤◌, ℕ, List, [], ◌∷◌, length, take, set, Some, None}
use Rattle.std.proofs.Common.{get_or}
use Rattle.qh_plan.specs.declared.verdict.Verdict.{Verdict}
use Rattle.qh_plan.specs.declared.verdict.Verdict.TheVariants.{Over}
use Rattle.qh_plan.specs.Jobs.{Job, ranges}
use Rattle.qh_plan.specs.Ranges.{Fits}
use Rattle.qh_plan.specs.Values.{range_value}
use Rattle.qh_parts.specs.declared.member.Member.{Member}
use Rattle.qh_slots.specs.Stands.{Slots, slot_at, Stands}

-- what stands where there is no member
abbrev pub unused : Member
unused = record { range = 0; verdict = Over 0 }

-- the range and the verdict of member k
abbrev pub range_of : List Member → ℕ → ℕ
range_of group k = (get_or group k unused).range

abbrev pub member_of : List Member → ℕ → Verdict
member_of group k = (get_or group k unused).verdict

-- each fits its range, and no range comes twice
pub record IsGroup (j : Job) (group : List Member) : Type 0 where
  pub inside : (k : ℕ) → k < length group → range_of group k < ranges j
  pub fits : (k : ℕ) → k < length group → Fits j (range_of group k) (member_of group k)
  pub apart : (i k : ℕ) → i < length group → k < length group → i ≢ k → range_of group i ≢ range_of group k

-- the slots of its ranges are closed
pub record AreShut (s : Slots) (group : List Member) : Type 0 where
  pub each : (k : ℕ) → k < length group → slot_at s (range_of group k) ≡ None

-- each verdict is its range's value
pub record AreValues (j : Job) (group : List Member) : Type 0 where
  pub each : (k : ℕ) → k < length group → member_of group k ≡ range_value j (range_of group k)

-- the slots with these members
abbrev pub filled : Slots → List Member → Slots
filled s [] = s
filled s (m ∷ group) = filled (set s m.range (Some m.verdict)) group

-- f stands for the job with these slots and the first members of the group, as many as were stored
pub record StandsPartly (j : Job) (s : Slots) (group : List Member) (f : List ℕ) : Type 0 where
  pub stored : ℕ
  pub most : stored ≤ length group
  pub stands : Stands j (filled s (take stored group)) f
