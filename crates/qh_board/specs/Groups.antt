-- Groups of results, and what a group's delivery promises.
use Rattle.std.specs.Prelude.{◌≡◌, ◌≢◌, ℕ, ◌+◌, if◌then◌else◌, ◌++◌, ◌∷◌, [], List, length, set, Option, Some, None}
use Rattle.qh_disk.specs.Disk.{Face}
use Rattle.qh_slots.specs.Stands.{Slots}
use Rattle.qh_lease.specs.declared.lease.Lease.{Lease}
use Rattle.qh_lease.specs.declared.lease.Lease.TheVariants.{Acked}
use Rattle.qh_lease.specs.declared.totals.Totals.{Totals}
use Rattle.qh_lease.specs.Lease.{lease_at, is_acked}
use Rattle.qh_range.specs.Results.{RangeResult}
use Rattle.qh_range.specs.declared.answers.Delivery.{Delivery}
use Rattle.qh_range.specs.declared.answers.Delivery.TheVariants.{Acked as Recorded, Repeat, Stranger, Halted, DiskFault}
use Rattle.qh_core.specs.Replay.{CourseView}
use Rattle.qh_slots.specs.Running.{IsTotalOf}
use Rattle.qh_board.specs.Board.{BoardView}
use Rattle.qh_board.specs.Claims.{StaysAsIs}
use Rattle.qh_board.specs.Deliveries.{acknowledged, Halts}

-- the results in the places of a group, each of which has one
abbrev pub results_in : List (Option RangeResult) → List RangeResult
results_in [] = []
results_in (None ∷ places) = results_in places
results_in (Some r ∷ places) = r ∷ results_in places

abbrev pub AreResults : List (Option RangeResult) → Type 0
AreResults places = length (results_in places) ≡ length places

-- the results of a group that are recorded: those whose range is not acknowledged and is that of no earlier one
abbrev pub kept : List Lease → List RangeResult → List RangeResult
kept leases [] = []
kept leases (r ∷ group) = if is_acked (lease_at leases r.range) then kept leases group else r ∷ kept (set leases r.range Acked) group

-- the table and the course after these results were recorded in order
abbrev pub recorded : Slots → List RangeResult → Slots
recorded table [] = table
recorded table (r ∷ results) = recorded (set table r.range (Some r.verdict)) results

abbrev pub all_acknowledged : CourseView → List RangeResult → CourseView
all_acknowledged c [] = c
all_acknowledged c (r ∷ results) = all_acknowledged (acknowledged c r.range r.attempt) results

-- so many acknowledgements more
abbrev pub more_acks : Totals → ℕ → Totals
more_acks t n = record t { acks = t.acks + n }

-- These results are recorded: their verdicts stand in the table, their ranges are acknowledged, noted and counted, and the total is that of the new table.
pub record RecordsAll {D T : Type 0} (old new : BoardView D T) (before after : Totals) (results : List RangeResult) : Type 0 where
  pub board : new ≡ record old {
    journal = record old.journal { disk = new.journal.disk; table = recorded old.journal.table results };
    course = all_acknowledged old.course results;
    total = new.total;
    tally = record old.tally { totals = more_acks old.tally.totals (length results) };
  }
  pub total : IsTotalOf old.job new.journal.table new.total
  pub share : after ≡ more_acks before (length results)

-- when a group's delivery answers so
abbrev pub GroupComes : {D T : Type 0} → BoardView D T → List RangeResult → Delivery → Type 0
GroupComes b group (Halted n) = b.course.fault ≡ Some n
GroupComes b group Stranger = ⊥
GroupComes b group Repeat = (b.course.fault ≡ None) × (kept b.course.leases group ≡ [])
GroupComes b group Recorded = (b.course.fault ≡ None) × (kept b.course.leases group ≢ [])
GroupComes b group DiskFault = (b.course.fault ≡ None) × (kept b.course.leases group ≢ [])

-- what it changes
abbrev pub GroupDoes : {D T : Type 0} → (D → Face) → BoardView D T → BoardView D T → Totals → Totals → List RangeResult → Delivery → Type 0
GroupDoes face old new before after group (Halted n) = StaysAsIs old new before after
GroupDoes face old new before after group Stranger = StaysAsIs old new before after
GroupDoes face old new before after group Repeat = StaysAsIs old new before after
GroupDoes face old new before after group Recorded = RecordsAll old new before after (kept old.course.leases group)
GroupDoes face old new before after group DiskFault = Halts face old new before after
