-- The running total of slots, as verdicts are added to them.
use Rattle.std.specs.Prelude.{◌≡◌, ℕ, ◌<◌, List, All, length, Option, None}
use Rattle.qh_limits.specs.Limits.{coefficient_bits}
use Rattle.qh_ring.specs.declared.number.Omega.{Omega}
use Rattle.qh_ring.specs.Numbers.{IsWithin}
use Rattle.qh_plan.specs.declared.verdict.Verdict.{Verdict}
use Rattle.qh_plan.specs.Jobs.{Job, IsJob, ranges}
use Rattle.qh_plan.specs.Ranges.{Fits}
use Rattle.qh_plan.specs.Verdicts.{total}
use Rattle.qh_plan.specs.Slots.{slot_sums, least_over, over_or}
use Rattle.qh_slots.specs.Stands.{Slots, slot_at, AllFit}

-- for each asked index a sum, and a path that is over, if there is one
pub record Running : Type 0 where
  pub sums : List Omega
  pub over : Option ℕ

-- what these slots of the job give together: the sum of their numbers for each asked index, and the least path that one names
pub record IsTotalOf (j : Job) (s : Slots) (t : Running) : Type 0 where
  pub sums : t.sums ≡ slot_sums j (slot_at s)
  pub over : t.over ≡ least_over j (slot_at s)

-- the slots of the job have no verdict of this range, and this one may be its
pub record IsNext (j : Job) (s : Slots) (range : ℕ) (verdict : Verdict) : Type 0 where
  pub count : length s ≡ ranges j
  pub fit : AllFit j s
  pub below : range < ranges j
  pub empty : slot_at s range ≡ None
  pub fits : Fits j range verdict

-- there are slots of which this is the total and to which the verdict may be added
pub record CanAdd (j : Job) (t : Running) (range : ℕ) (verdict : Verdict) : Type 0 where
  pub slots : Slots
  pub total : IsTotalOf j slots t
  pub next : IsNext j slots range verdict

-- the total of the slots in one verdict, and that each sum is within 126 bits
pub record IsWholeTotal (j : Job) (s : Slots) (t : Running) : Type 0 where
  pub total : total j (slot_at s) ≡ over_or t.over t.sums
  pub within : All (IsWithin coefficient_bits) t.sums

abbrev pub TotalLaw : Type 0
TotalLaw = (j : Job) (s : Slots) (t : Running) → IsJob j → AllFit j s → IsTotalOf j s t → IsWholeTotal j s t
