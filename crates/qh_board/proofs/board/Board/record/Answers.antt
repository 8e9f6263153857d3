use Rattle.std.proofs.Common.{◌≡◌, ◌≢◌, ℕ, Bool, true, false, set, Some, None, subst, sym, ap, ◌∙◌, rules}
use Rattle.std.specs.Prelude.{is_some}
use Rattle.std.specs.Arc.{arc_value}
use Rattle.qh_plan.specs.declared.verdict.Verdict.{Verdict}
use Rattle.qh_plan.specs.Jobs.{Job, IsJob}
use Rattle.qh_plan.specs.Ranges.{Fits}
use Rattle.qh_plan.specs.Values.{range_value}
use Rattle.qh_disk.specs.Disk.{Reads}
use Rattle.qh_slots.specs.Stands.{Slots, Stands, slot_at}
use Rattle.qh_slots.specs.Moments.{GoesOn}
use Rattle.qh_journal.specs.Calls.{JournalView, Went}
use Rattle.qh_lease.specs.declared.lease.Lease.TheVariants.{Acked}
use Rattle.qh_lease.specs.Lease.{lease_at}
use Rattle.qh_core.specs.Replay.{CourseView}
use Rattle.qh_slots.specs.Running.{IsTotalOf, IsNext}
use Rattle.qh_board.specs.Board.{BoardView, IsAddable}
use Rattle.qh_board.specs.Deliveries.{acknowledged, halted}
use Rattle.qh_board.proofs.DeliverLemmas.{IsDue, due_from, addable_from, next_from, held_in, reads_on, halted_board, stored_board}
use Rattle.qh_board.proofs.DiskLemmas.{serves_stored}
use Rattle.qh_board.proofs.board.Board.record.Goals as goal

pub store-requires-clause-fits : goal.store-requires-clause-fits
store-requires-clause-fits g c =
    let b : BoardView g.row.D.Denot g.row.T.Denot = (record { job = arc_value c.self.inside.job; journal = c.self.inside.journal; timer = c.self.inside.timer; course = c.self.inside.course; total = c.self.inside.total; tally = c.self.inside.tally }) in
    let same : c.args.outcome.job ≡ arc_value c.self.inside.job = c.requires.job ∙ sym (ap (λ (k : BoardView g.row.D.Denot g.row.T.Denot). k.job) c.self.view_is) in
    let open_range : lease_at c.self.inside.course.leases c.args.outcome.range ≢ Acked = subst (λ (k : BoardView g.row.D.Denot g.row.T.Denot). lease_at k.course.leases c.args.outcome.range ≢ Acked) (sym c.self.view_is) c.requires.waiting in
    let due : IsDue b c.range-range.result c.into_verdict.result = due_from g.D.Disk.face b c.self.invariant c.failed.ensures.valid c.args.outcome c.range-range.result c.into_verdict.result
    same c.range-range.ensures.value c.into_verdict.ensures.value c.range-range.ensures.below open_range in
    let valid : IsJob (arc_value c.self.inside.job) = subst IsJob c.deref.ensures c.ranges-2.ensures.valid in
    let fits : Fits c.self.inside.journal.job c.range-range.result c.into_verdict.result = subst (λ (v : Verdict). Fits c.self.inside.journal.job c.range-range.result v) (sym due.value)
    (subst (λ (k : Job). Fits k c.range-range.result (range_value (arc_value c.self.inside.job) c.range-range.result)) (sym c.self.invariant.one_job)
    (c.range_value_fits.ensures (arc_value c.self.inside.job) valid c.range-range.result)) in
    fits

pub invariant_of-self : goal.invariant_of-self
invariant_of-self g c =
    let b : BoardView g.row.D.Denot g.row.T.Denot = (record { job = arc_value c.self.inside.job; journal = c.self.inside.journal; timer = c.self.inside.timer; course = c.self.inside.course; total = c.self.inside.total; tally = c.self.inside.tally }) in
    let same : c.args.outcome.job ≡ arc_value c.self.inside.job = c.requires.job ∙ sym (ap (λ (k : BoardView g.row.D.Denot g.row.T.Denot). k.job) c.self.view_is) in
    let open_range : lease_at c.self.inside.course.leases c.args.outcome.range ≢ Acked = subst (λ (k : BoardView g.row.D.Denot g.row.T.Denot). lease_at k.course.leases c.args.outcome.range ≢ Acked) (sym c.self.view_is) c.requires.waiting in
    let due : IsDue b c.range-range.result c.into_verdict.result = due_from g.D.Disk.face b c.self.invariant c.failed.ensures.valid c.args.outcome c.range-range.result c.into_verdict.result
    same c.range-range.ensures.value c.into_verdict.ensures.value c.range-range.ensures.below open_range in
    halted_board g.D.Disk.face b c.self.invariant c.store.new.self c.halt.new.self c.in-Err.failed.faults c.in-Err.ensures.err c.halt.ensures.halted c.halt.ensures.begun c.in-Err.ensures.count
    (reads_on g.D.Disk.face c.self.inside.journal.job (arc_value c.self.inside.job) c.self.inside.journal.table c.range-range.result c.into_verdict.result c.self.inside.journal.disk c.store.new.self.disk
    c.self.invariant.one_job due.low due.bare due.value c.in-Err.ensures.reads)

pub add_slot-requires-clause-open : goal.add_slot-requires-clause-open
add_slot-requires-clause-open g c =
    let b : BoardView g.row.D.Denot g.row.T.Denot = (record { job = arc_value c.self.inside.job; journal = c.self.inside.journal; timer = c.self.inside.timer; course = c.self.inside.course; total = c.self.inside.total; tally = c.self.inside.tally }) in
    let same : c.args.outcome.job ≡ arc_value c.self.inside.job = c.requires.job ∙ sym (ap (λ (k : BoardView g.row.D.Denot g.row.T.Denot). k.job) c.self.view_is) in
    let open_range : lease_at c.self.inside.course.leases c.args.outcome.range ≢ Acked = subst (λ (k : BoardView g.row.D.Denot g.row.T.Denot). lease_at k.course.leases c.args.outcome.range ≢ Acked) (sym c.self.view_is) c.requires.waiting in
    let due : IsDue b c.range-range.result c.into_verdict.result = due_from g.D.Disk.face b c.self.invariant c.failed.ensures.valid c.args.outcome c.range-range.result c.into_verdict.result
    same c.range-range.ensures.value c.into_verdict.ensures.value c.range-range.ensures.below open_range in
    let valid : IsJob (arc_value c.self.inside.job) = subst IsJob c.deref.ensures c.ranges-2.ensures.valid in
    let fits : Fits c.self.inside.journal.job c.range-range.result c.into_verdict.result = subst (λ (v : Verdict). Fits c.self.inside.journal.job c.range-range.result v) (sym due.value)
    (subst (λ (k : Job). Fits k c.range-range.result (range_value (arc_value c.self.inside.job) c.range-range.result)) (sym c.self.invariant.one_job)
    (c.range_value_fits.ensures (arc_value c.self.inside.job) valid c.range-range.result)) in
    addable_from g.D.Disk.face b c.self.invariant c.failed.ensures.valid c.range-range.result c.into_verdict.result due fits c.deref-2.result.now c.deref-2.ensures c.store.new.self
    (ap (λ (k : JournalView g.row.D.Denot). k.table) c.in_default.ensures.ok)

pub invariant_of-self-2 : goal.invariant_of-self-2
invariant_of-self-2 g c =
    let b : BoardView g.row.D.Denot g.row.T.Denot = (record { job = arc_value c.self.inside.job; journal = c.self.inside.journal; timer = c.self.inside.timer; course = c.self.inside.course; total = c.self.inside.total; tally = c.self.inside.tally }) in
    let same : c.args.outcome.job ≡ arc_value c.self.inside.job = c.requires.job ∙ sym (ap (λ (k : BoardView g.row.D.Denot g.row.T.Denot). k.job) c.self.view_is) in
    let open_range : lease_at c.self.inside.course.leases c.args.outcome.range ≢ Acked = subst (λ (k : BoardView g.row.D.Denot g.row.T.Denot). lease_at k.course.leases c.args.outcome.range ≢ Acked) (sym c.self.view_is) c.requires.waiting in
    let due : IsDue b c.range-range.result c.into_verdict.result = due_from g.D.Disk.face b c.self.invariant c.failed.ensures.valid c.args.outcome c.range-range.result c.into_verdict.result
    same c.range-range.ensures.value c.into_verdict.ensures.value c.range-range.ensures.below open_range in
    let valid : IsJob (arc_value c.self.inside.job) = subst IsJob c.deref.ensures c.ranges-2.ensures.valid in
    let fits : Fits c.self.inside.journal.job c.range-range.result c.into_verdict.result = subst (λ (v : Verdict). Fits c.self.inside.journal.job c.range-range.result v) (sym due.value)
    (subst (λ (k : Job). Fits k c.range-range.result (range_value (arc_value c.self.inside.job) c.range-range.result)) (sym c.self.invariant.one_job)
    (c.range_value_fits.ensures (arc_value c.self.inside.job) valid c.range-range.result)) in
    let running : c.self.inside.course.fault ≡ None = ap (λ (k : BoardView g.row.D.Denot g.row.T.Denot). k.course.fault) c.self.view_is ∙ c.requires.running in
    let total = subst (λ (k : Job). IsTotalOf k (set c.self.inside.journal.table c.range-range.result (Some c.into_verdict.result)) c.add_slot.new.total) c.deref-2.ensures
    (c.add_slot.ensures c.into_verdict.result c.self.inside.journal.table
    (held_in c.store.new.self c.self.inside.journal c.range-range.result c.into_verdict.result due.low (ap (λ (k : JournalView g.row.D.Denot). k.table) c.in_default.ensures.ok))
    (subst (λ (k : Job). IsTotalOf k c.self.inside.journal.table c.self.inside.total) (sym c.deref-2.ensures) c.self.invariant.total)
    (next_from g.D.Disk.face b c.self.invariant c.failed.ensures.valid c.range-range.result c.into_verdict.result due fits c.deref-2.result.now c.deref-2.ensures)) in
    stored_board g.D.Disk.face b c.self.invariant c.failed.ensures.valid.count c.range-range.result c.into_verdict.result due c.store.new.self c.acknowledge.new.self c.add_slot.new.total c.ack.new.self c.attempt-attempt.result
    running c.in_default.ensures.ok c.acknowledge.ensures.acked c.acknowledge.ensures.begun total c.ack.ensures.totals c.in_default.ensures.reads
