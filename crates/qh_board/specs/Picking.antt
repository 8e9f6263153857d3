-- The results of a group that are recorded, one after the other.
use Rattle.std.specs.Prelude.{◌≡◌, ◌≢◌, ℕ, ◌<◌, ◌≤◌, false, List, [], ◌∷◌, length, set, Some}
use Rattle.qh_limits.specs.Limits.{max_grants}
use Rattle.qh_plan.specs.declared.verdict.Verdict.{Verdict}
use Rattle.qh_plan.specs.Jobs.{Job, ranges}
use Rattle.qh_plan.specs.Values.{range_value}
use Rattle.qh_slots.specs.Stands.{Slots, slot_at}
use Rattle.qh_parts.specs.declared.member.Member.{Member}
use Rattle.qh_lease.specs.declared.lease.Lease.{Lease}
use Rattle.qh_lease.specs.declared.lease.Lease.TheVariants.{Acked}
use Rattle.qh_lease.specs.Lease.{lease_at, is_acked}
use Rattle.qh_range.specs.Results.{RangeResult}
use Rattle.qh_core.specs.Replay.{CourseView}
use Rattle.qh_slots.specs.Running.{Running, IsTotalOf, IsNext}
use Rattle.qh_board.specs.declared.picking.Entry.{Entry}
use Rattle.qh_board.specs.Deliveries.{acknowledged}

-- what is stored of a result, and what is noted
abbrev pub member_for : RangeResult → Member
member_for r = record { range = r.range; verdict = r.verdict }

abbrev pub entry_for : RangeResult → Entry
entry_for r = record { range = r.range; attempt = r.attempt }

-- a result of the job whose range is not acknowledged
pub record IsTurn (j : Job) (leases : List Lease) (r : RangeResult) : Type 0 where
  pub below : r.range < ranges j
  pub few : r.attempt ≤ max_grants
  pub value : r.verdict ≡ range_value j r.range
  pub waiting : is_acked (lease_at leases r.range) ≡ false

-- each is such a result once the ranges of those before it are acknowledged
abbrev pub TakeTurns : Job → List Lease → List RangeResult → Type 0
TakeTurns j leases [] = Unit {0}
TakeTurns j leases (r ∷ results) = IsTurn j leases r × TakeTurns j (set leases r.range Acked) results

-- the course after these entries, and that each names a range that is not acknowledged once those before it are
abbrev pub all_noted : CourseView → List Entry → CourseView
all_noted c [] = c
all_noted c (e ∷ entries) = all_noted (acknowledged c e.range e.attempt) entries

pub record IsWaiting (leases : List Lease) (e : Entry) : Type 0 where
  pub known : e.range < length leases
  pub few : e.attempt ≤ max_grants
  pub waiting : lease_at leases e.range ≢ Acked

abbrev pub AreWaiting : List Lease → List Entry → Type 0
AreWaiting leases [] = Unit {0}
AreWaiting leases (e ∷ entries) = IsWaiting leases e × AreWaiting (set leases e.range Acked) entries

-- the verdict that the table has for a range is added to the slots that have none there
pub record IsAdded (j : Job) (s : Slots) (range : ℕ) (table : Slots) : Type 0 where
  pub verdict : Verdict
  pub next : IsNext j s range verdict
  pub held : slot_at table range ≡ Some verdict

-- these slots and the verdicts of the entries' ranges, added in turn, are the table
abbrev pub LeadTo : Job → Slots → List Entry → Slots → Type 0
LeadTo j s [] table = s ≡ table
LeadTo j s (e ∷ entries) table = (a : IsAdded j s e.range table) × LeadTo j (set s e.range (Some a.verdict)) entries table

-- the total is that of slots which these entries lead to the table
pub record IsBehind (j : Job) (entries : List Entry) (table : Slots) (t : Running) : Type 0 where
  pub slots : Slots
  pub total : IsTotalOf j slots t
  pub leads : LeadTo j slots entries table
