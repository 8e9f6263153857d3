-- What the calls promise that record results.
use Rattle.std.specs.Prelude.{◌≡◌, ◌≢◌, ℕ, ◌+◌, true, ◌++◌, ◌∷◌, [], set, Option, Some, None}
use Rattle.std.specs.Option.{IsSomeAnd}
use Rattle.qh_limits.specs.Counts.{Rose}
use Rattle.qh_disk.specs.Disk.{Face}
use Rattle.qh_journal.specs.Calls.{JournalView}
use Rattle.qh_lease.specs.declared.lease.Lease.TheVariants.{Acked}
use Rattle.qh_lease.specs.declared.totals.Totals.{Totals}
use Rattle.qh_lease.specs.Lease.{lease_at}
use Rattle.qh_range.specs.Results.{RangeResult}
use Rattle.qh_range.specs.declared.answers.Delivery.{Delivery}
use Rattle.qh_range.specs.declared.answers.Delivery.TheVariants.{Acked as Recorded, Repeat, Stranger, Halted, DiskFault}
use Rattle.qh_core.specs.declared.noted.Noted.TheVariants.{Acked as NotedAcked, Halted as NotedHalted}
use Rattle.qh_core.specs.Replay.{CourseView, noted}
use Rattle.qh_slots.specs.Running.{IsTotalOf}
use Rattle.qh_board.specs.Board.{BoardView}
use Rattle.qh_board.specs.Claims.{StaysAsIs}

-- the course after the result of a range was recorded, and after the halt
abbrev pub acknowledged : CourseView → ℕ → ℕ → CourseView
acknowledged c range attempt = noted c range Acked (NotedAcked range attempt)

abbrev pub halted : CourseView → ℕ → CourseView
halted c faults = record c { fault = Some faults; history = c.history ++ NotedHalted faults ∷ [] }

-- one more acknowledgement
abbrev pub one_ack : Totals → Totals
one_ack t = record t { acks = t.acks + 1 }

-- A result is recorded: its verdict stands in the table, its range is acknowledged, noted and counted, and the total is that of the new table.
pub record Records {D T : Type 0} (old new : BoardView D T) (before after : Totals) (r : RangeResult) : Type 0 where
  pub board : new ≡ record old {
    journal = record old.journal { disk = new.journal.disk; table = set old.journal.table r.range (Some r.verdict) };
    course = acknowledged old.course r.range r.attempt;
    total = new.total;
    tally = record old.tally { totals = one_ack old.tally.totals };
  }
  pub total : IsTotalOf old.job new.journal.table new.total
  pub share : after ≡ one_ack before

-- the disk's count rose; there is a disk
abbrev pub DiskRose : {D : Type 0} → (D → Face) → Option D → Option D → Type 0
DiskRose face old new = IsSomeAnd old (λ d. IsSomeAnd new (λ e. Rose (face d).faults (face e).faults))

-- The board halts: its journal has failed, and it keeps the disk's count of faults. The table stays as it was.
pub record Halts {D T : Type 0} (face : D → Face) (old new : BoardView D T) (before after : Totals) : Type 0 where
  pub faults : ℕ
  pub board : new ≡ record old { journal = record old.journal { disk = new.journal.disk; failed = true }; course = halted old.course faults }
  pub rose : DiskRose face old.journal.disk new.journal.disk
  pub count : IsSomeAnd new.journal.disk (λ e. faults ≡ (face e).faults)
  pub share : after ≡ before

-- ---- one result
-- when a delivery answers so
abbrev pub DeliveryComes : {D T : Type 0} → BoardView D T → RangeResult → Delivery → Type 0
DeliveryComes b r (Halted n) = b.course.fault ≡ Some n
DeliveryComes b r Stranger = (b.course.fault ≡ None) × (r.job ≢ b.job)
DeliveryComes b r Repeat = (b.course.fault ≡ None) × (r.job ≡ b.job) × (lease_at b.course.leases r.range ≡ Acked)
DeliveryComes b r Recorded = (b.course.fault ≡ None) × (r.job ≡ b.job) × (lease_at b.course.leases r.range ≢ Acked)
DeliveryComes b r DiskFault = (b.course.fault ≡ None) × (r.job ≡ b.job) × (lease_at b.course.leases r.range ≢ Acked)

-- what it changes
abbrev pub DeliveryDoes : {D T : Type 0} → (D → Face) → BoardView D T → BoardView D T → Totals → Totals → RangeResult → Delivery → Type 0
DeliveryDoes face old new before after r (Halted n) = StaysAsIs old new before after
DeliveryDoes face old new before after r Stranger = StaysAsIs old new before after
DeliveryDoes face old new before after r Repeat = StaysAsIs old new before after
DeliveryDoes face old new before after r Recorded = Records old new before after r
DeliveryDoes face old new before after r DiskFault = Halts face old new before after
