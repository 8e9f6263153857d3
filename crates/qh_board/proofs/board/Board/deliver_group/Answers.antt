use Rattle.std.proofs.Common.{◌≡◌, ℕ, Bool, false, true, List, length, map, Some, None, refl, subst, sym, ap, ◌∙◌}
use Rattle.std.proofs.lemmas.Bool.{false≢true}
use Rattle.std.proofs.lemmas.List.{length-map}
use Rattle.std.specs.Arc.{arc_value}
use Rattle.qh_limits.specs.Counts.{Rose}
use Rattle.qh_plan.specs.Jobs.{Job, IsJob}
use Rattle.qh_plan.specs.Ranges.{Fits}
use Rattle.qh_plan.specs.Values.{range_value}
use Rattle.qh_disk.specs.Disk.{Reads}
use Rattle.qh_slots.specs.Stands.{slot_at}
use Rattle.std.specs.Prelude.{if◌then◌else◌}
use Rattle.qh_parts.specs.declared.member.Member.{Member}
use Rattle.qh_parts.specs.Groups.{IsGroup, AreShut, AreValues, StandsPartly, filled}
use Rattle.qh_journal.specs.Calls.{JournalView, Went}
use Rattle.qh_lease.specs.declared.totals.Totals.{Totals}
use Rattle.qh_lease.specs.Tally.{Count}
use Rattle.qh_range.specs.Results.{RangeResult}
use Rattle.qh_core.specs.Replay.{CourseView, is_begun}
use Rattle.qh_slots.specs.Running.{IsTotalOf}
use Rattle.qh_board.specs.declared.picking.Entry.{Entry}
use Rattle.qh_board.specs.Board.{BoardView, Serves, begun}
use Rattle.qh_board.specs.Deliveries.{Halts}
use Rattle.qh_board.specs.Groups.{kept, recorded, all_acknowledged, more_acks, RecordsAll}
use Rattle.qh_board.specs.Picking.{member_for, entry_for, TakeTurns, AreWaiting, IsBehind, all_noted}
use Rattle.qh_board.proofs.DeliverLemmas.{halted_board}
use Rattle.qh_board.proofs.DiskLemmas.{serves_same, serves_stored, rose_went, some_went}
use Rattle.qh_board.proofs.PickLemmas.{recorded-filled, all_noted-map, group_of, shut_of, values_of, waiting_of, behind_of, reads_of, begun_of, grouped_board}
use Rattle.qh_board.proofs.board.Board.deliver_group.Goals as goal

pub returns-in-Some-clause-disk : goal.returns-in-Some-clause-disk
returns-in-Some-clause-disk g c = serves_same g.D.Disk.face g.D.Disk.loans c.args.self.now.job c.args.self.now.journal.disk

pub returns-then-is_empty-clause-disk : goal.returns-then-is_empty-clause-disk
returns-then-is_empty-clause-disk g c = serves_same g.D.Disk.face g.D.Disk.loans c.args.self.now.job c.args.self.now.journal.disk

pub store_group-requires-clause-group : goal.store_group-requires-clause-group
store_group-requires-clause-group g c =
    let b : BoardView g.row.D.Denot g.row.T.Denot = (record { job = arc_value c.self.inside.job; journal = c.self.inside.journal; timer = c.self.inside.timer; course = c.self.inside.course; total = c.self.inside.total; tally = c.self.inside.tally }) in
    let results : List RangeResult = kept c.self.inside.course.leases c.args.group in
    let turns : TakeTurns (arc_value c.self.inside.job) c.self.inside.course.leases results = subst (λ (j : Job). TakeTurns j c.self.inside.course.leases results) c.deref.ensures c.pick-picked.ensures.turns in
    let valid : IsJob (arc_value c.self.inside.job) = subst IsJob c.deref-2.ensures c.ranges-2.ensures.valid in
    let law : (r : ℕ) → Fits (arc_value c.self.inside.job) r (range_value (arc_value c.self.inside.job) r) = c.range_value_fits.ensures (arc_value c.self.inside.job) valid in
    subst (λ (l : List Member). IsGroup c.self.inside.journal.job l) (sym c.pick-picked.ensures.members) (group_of g.D.Disk.face b c.self.invariant c.failed.ensures.valid results turns law)

pub store_group-requires-clause-shut : goal.store_group-requires-clause-shut
store_group-requires-clause-shut g c =
    let b : BoardView g.row.D.Denot g.row.T.Denot = (record { job = arc_value c.self.inside.job; journal = c.self.inside.journal; timer = c.self.inside.timer; course = c.self.inside.course; total = c.self.inside.total; tally = c.self.inside.tally }) in
    let results : List RangeResult = kept c.self.inside.course.leases c.args.group in
    let turns : TakeTurns (arc_value c.self.inside.job) c.self.inside.course.leases results = subst (λ (j : Job). TakeTurns j c.self.inside.course.leases results) c.deref.ensures c.pick-picked.ensures.turns in
    subst (λ (l : List Member). AreShut c.self.inside.journal.table l) (sym c.pick-picked.ensures.members) (shut_of g.D.Disk.face b c.self.invariant c.failed.ensures.valid results turns)

pub invariant_of-self : goal.invariant_of-self
invariant_of-self g c =
    let b : BoardView g.row.D.Denot g.row.T.Denot = (record { job = arc_value c.self.inside.job; journal = c.self.inside.journal; timer = c.self.inside.timer; course = c.self.inside.course; total = c.self.inside.total; tally = c.self.inside.tally }) in
    let results : List RangeResult = kept c.self.inside.course.leases c.args.group in
    let turns : TakeTurns (arc_value c.self.inside.job) c.self.inside.course.leases results = subst (λ (j : Job). TakeTurns j c.self.inside.course.leases results) c.deref.ensures c.pick-picked.ensures.turns in
    halted_board g.D.Disk.face b c.self.invariant c.store_group.new.self c.halt.new.self c.in-Err.failed.faults c.in-Err.ensures.err c.halt.ensures.halted c.halt.ensures.begun c.in-Err.ensures.count
    (reads_of g.D.Disk.face b c.self.invariant c.failed.ensures.valid results turns c.store_group.new.self.disk
    (subst (λ (l : List Member). Went (λ d e. Reads (g.D.Disk.face e) (StandsPartly c.self.inside.journal.job c.self.inside.journal.table l)) c.self.inside.journal.disk c.store_group.new.self.disk) c.pick-picked.ensures.members c.in-Err.ensures.reads))

pub returns-in-Err-clause-does : goal.returns-in-Err-clause-does
returns-in-Err-clause-does g c =
    let some = λ (none : c.self.inside.journal.disk ≡ None). false≢true (c.in-Err.ensures.unkept none) in
    subst (λ (v : BoardView g.row.D.Denot g.row.T.Denot). Halts g.D.Disk.face v (record { job = arc_value c.self.inside.job; journal = c.store_group.new.self; timer = c.self.inside.timer; course = c.halt.new.self; total = c.self.inside.total; tally = c.self.inside.tally }) c.args.share.now c.args.share.now) c.self.view_is
    (record {
      faults = c.in-Err.failed.faults;
      board = λ i. record { job = arc_value c.self.inside.job; journal = c.in-Err.ensures.err i; timer = c.self.inside.timer; course = c.halt.ensures.halted i; total = c.self.inside.total; tally = c.self.inside.tally };
      rose = rose_went g.D.Disk.face c.self.inside.journal.disk c.store_group.new.self.disk some c.in-Err.ensures.rose;
      count = some_went (λ d e. Rose (g.D.Disk.face d).faults (g.D.Disk.face e).faults) (λ e. c.in-Err.failed.faults ≡ (g.D.Disk.face e).faults) c.self.inside.journal.disk c.store_group.new.self.disk some c.in-Err.ensures.rose c.in-Err.ensures.count;
      share = refl;
    })

pub returns-in-Err-clause-disk : goal.returns-in-Err-clause-disk
returns-in-Err-clause-disk g c =
    let b : BoardView g.row.D.Denot g.row.T.Denot = (record { job = arc_value c.self.inside.job; journal = c.self.inside.journal; timer = c.self.inside.timer; course = c.self.inside.course; total = c.self.inside.total; tally = c.self.inside.tally }) in
    let results : List RangeResult = kept c.self.inside.course.leases c.args.group in
    let turns : TakeTurns (arc_value c.self.inside.job) c.self.inside.course.leases results = subst (λ (j : Job). TakeTurns j c.self.inside.course.leases results) c.deref.ensures c.pick-picked.ensures.turns in
    let values = subst (λ (l : List Member). AreValues c.self.inside.journal.job l) (sym c.pick-picked.ensures.members) (values_of g.D.Disk.face b c.self.invariant c.failed.ensures.valid results turns) in
    subst (λ (v : BoardView g.row.D.Denot g.row.T.Denot). Went (Serves g.D.Disk.face g.D.Disk.loans v.job) v.journal.disk c.store_group.new.self.disk) c.self.view_is
    (subst (λ (j : Job). Went (Serves g.D.Disk.face g.D.Disk.loans j) c.self.inside.journal.disk c.store_group.new.self.disk) c.self.invariant.one_job
    (serves_stored g.D.Disk.face g.D.Disk.loans c.self.inside.journal.job c.self.inside.journal.disk c.store_group.new.self.disk c.in-Err.ensures.disk (c.in-Err.ensures.made values) (c.in-Err.ensures.goes_on values)))

pub acknowledge_all-requires-clause-waiting : goal.acknowledge_all-requires-clause-waiting
acknowledge_all-requires-clause-waiting g c =
    let b : BoardView g.row.D.Denot g.row.T.Denot = (record { job = arc_value c.self.inside.job; journal = c.self.inside.journal; timer = c.self.inside.timer; course = c.self.inside.course; total = c.self.inside.total; tally = c.self.inside.tally }) in
    let results : List RangeResult = kept c.self.inside.course.leases c.args.group in
    let turns : TakeTurns (arc_value c.self.inside.job) c.self.inside.course.leases results = subst (λ (j : Job). TakeTurns j c.self.inside.course.leases results) c.deref.ensures c.pick-picked.ensures.turns in
    let entries : c.as_slice.result.now ≡ map entry_for results = c.as_slice.ensures.value ∙ c.pick-picked.ensures.entries in
    subst (λ (l : List Entry). AreWaiting c.self.inside.course.leases l) (sym entries) (waiting_of g.D.Disk.face b c.self.invariant c.failed.ensures.valid results turns)

pub acknowledge_all-requires-clause-behind : goal.acknowledge_all-requires-clause-behind
acknowledge_all-requires-clause-behind g c =
    let b : BoardView g.row.D.Denot g.row.T.Denot = (record { job = arc_value c.self.inside.job; journal = c.self.inside.journal; timer = c.self.inside.timer; course = c.self.inside.course; total = c.self.inside.total; tally = c.self.inside.tally }) in
    let results : List RangeResult = kept c.self.inside.course.leases c.args.group in
    let turns : TakeTurns (arc_value c.self.inside.job) c.self.inside.course.leases results = subst (λ (j : Job). TakeTurns j c.self.inside.course.leases results) c.deref.ensures c.pick-picked.ensures.turns in
    let valid : IsJob (arc_value c.self.inside.job) = subst IsJob c.deref-2.ensures c.ranges-2.ensures.valid in
    let law : (r : ℕ) → Fits (arc_value c.self.inside.job) r (range_value (arc_value c.self.inside.job) r) = c.range_value_fits.ensures (arc_value c.self.inside.job) valid in
    let entries : c.as_slice.result.now ≡ map entry_for results = c.as_slice.ensures.value ∙ c.pick-picked.ensures.entries in
    let after : c.store_group.new.self ≡ record { disk = c.store_group.new.self.disk; job = c.self.inside.journal.job; table = filled c.self.inside.journal.table (map member_for results); failed = false } =
    subst (λ (l : List Member). c.store_group.new.self ≡ record { disk = c.store_group.new.self.disk; job = c.self.inside.journal.job; table = filled c.self.inside.journal.table l; failed = false }) c.pick-picked.ensures.members c.in_default-store_group.ensures.ok in
    let table : c.store_group.new.self.table ≡ filled c.self.inside.journal.table (map member_for results) = ap (λ (k : JournalView g.row.D.Denot). k.table) after in
    subst (λ (l : List Entry). IsBehind c.deref-3.result.now l c.store_group.new.self.table c.self.inside.total) (sym entries)
    (behind_of g.D.Disk.face b c.self.invariant c.failed.ensures.valid results turns law c.deref-3.result.now c.deref-3.ensures c.store_group.new.self.table table)

pub invariant_of-self-2 : goal.invariant_of-self-2
invariant_of-self-2 g c =
    let b : BoardView g.row.D.Denot g.row.T.Denot = (record { job = arc_value c.self.inside.job; journal = c.self.inside.journal; timer = c.self.inside.timer; course = c.self.inside.course; total = c.self.inside.total; tally = c.self.inside.tally }) in
    let results : List RangeResult = kept c.self.inside.course.leases c.args.group in
    let turns : TakeTurns (arc_value c.self.inside.job) c.self.inside.course.leases results = subst (λ (j : Job). TakeTurns j c.self.inside.course.leases results) c.deref.ensures c.pick-picked.ensures.turns in
    let entries : c.as_slice.result.now ≡ map entry_for results = c.as_slice.ensures.value ∙ c.pick-picked.ensures.entries in
    let after : c.store_group.new.self ≡ record { disk = c.store_group.new.self.disk; job = c.self.inside.journal.job; table = filled c.self.inside.journal.table (map member_for results); failed = false } =
    subst (λ (l : List Member). c.store_group.new.self ≡ record { disk = c.store_group.new.self.disk; job = c.self.inside.journal.job; table = filled c.self.inside.journal.table l; failed = false }) c.pick-picked.ensures.members c.in_default-store_group.ensures.ok in
    let table : c.store_group.new.self.table ≡ filled c.self.inside.journal.table (map member_for results) = ap (λ (k : JournalView g.row.D.Denot). k.table) after in
    let course : c.acknowledge_all.new.course ≡ all_acknowledged c.self.inside.course results = c.acknowledge_all.ensures.course ∙ ap (all_noted c.self.inside.course) entries ∙ all_noted-map c.self.inside.course results in
    let many : length c.as_slice.result.now ≡ length results = ap length entries ∙ length-map results entry_for in
    let total : IsTotalOf (arc_value c.self.inside.job) c.store_group.new.self.table c.acknowledge_all.new.total = subst (λ (j : Job). IsTotalOf j c.store_group.new.self.table c.acknowledge_all.new.total) c.deref-3.ensures c.acknowledge_all.ensures.total in
    let running : c.self.inside.course.fault ≡ None = sym c.fault.ensures ∙ c.in_default.is in
    grouped_board g.D.Disk.face b c.self.invariant c.failed.ensures.valid results turns c.store_group.new.self c.acknowledge_all.new.course c.acknowledge_all.new.total c.acknowledge_all.new.tally running after course c.acknowledge_all.ensures.begun total
    (ap (λ (n : Count). n.totals) c.acknowledge_all.ensures.tally ∙ ap (more_acks c.self.inside.tally.totals) many)
    (subst (λ (l : List Member). Went (λ d e. Reads (g.D.Disk.face e) (StandsPartly c.self.inside.journal.job c.self.inside.journal.table l)) c.self.inside.journal.disk c.store_group.new.self.disk) c.pick-picked.ensures.members c.in_default-store_group.ensures.reads)

pub returns-clause-does : goal.returns-clause-does
returns-clause-does g c =
    let b : BoardView g.row.D.Denot g.row.T.Denot = (record { job = arc_value c.self.inside.job; journal = c.self.inside.journal; timer = c.self.inside.timer; course = c.self.inside.course; total = c.self.inside.total; tally = c.self.inside.tally }) in
    let results : List RangeResult = kept c.self.inside.course.leases c.args.group in
    let turns : TakeTurns (arc_value c.self.inside.job) c.self.inside.course.leases results = subst (λ (j : Job). TakeTurns j c.self.inside.course.leases results) c.deref.ensures c.pick-picked.ensures.turns in
    let entries : c.as_slice.result.now ≡ map entry_for results = c.as_slice.ensures.value ∙ c.pick-picked.ensures.entries in
    let after : c.store_group.new.self ≡ record { disk = c.store_group.new.self.disk; job = c.self.inside.journal.job; table = filled c.self.inside.journal.table (map member_for results); failed = false } =
    subst (λ (l : List Member). c.store_group.new.self ≡ record { disk = c.store_group.new.self.disk; job = c.self.inside.journal.job; table = filled c.self.inside.journal.table l; failed = false }) c.pick-picked.ensures.members c.in_default-store_group.ensures.ok in
    let table : c.store_group.new.self.table ≡ filled c.self.inside.journal.table (map member_for results) = ap (λ (k : JournalView g.row.D.Denot). k.table) after in
    let course : c.acknowledge_all.new.course ≡ all_acknowledged c.self.inside.course results = c.acknowledge_all.ensures.course ∙ ap (all_noted c.self.inside.course) entries ∙ all_noted-map c.self.inside.course results in
    let many : length c.as_slice.result.now ≡ length results = ap length entries ∙ length-map results entry_for in
    let total : IsTotalOf (arc_value c.self.inside.job) c.store_group.new.self.table c.acknowledge_all.new.total = subst (λ (j : Job). IsTotalOf j c.store_group.new.self.table c.acknowledge_all.new.total) c.deref-3.ensures c.acknowledge_all.ensures.total in
    let ready : c.self.inside.journal.failed ≡ false = sym c.failed.ensures.value ∙ c.if-prove.false in
    subst (λ (v : BoardView g.row.D.Denot g.row.T.Denot). RecordsAll v (record { job = arc_value c.self.inside.job; journal = c.store_group.new.self; timer = c.self.inside.timer; course = c.acknowledge_all.new.course; total = c.acknowledge_all.new.total; tally = c.acknowledge_all.new.tally }) c.args.share.now c.acknowledge_all.new.share (kept v.course.leases c.args.group)) c.self.view_is
    (record {
      board = λ i. record {
        job = arc_value c.self.inside.job;
        journal = (after ∙ (λ k. record { disk = c.store_group.new.self.disk; job = c.self.inside.journal.job; table = sym (recorded-filled c.self.inside.journal.table results) k; failed = sym ready k })) i;
        timer = c.self.inside.timer;
        course = course i;
        total = c.acknowledge_all.new.total;
        tally = (c.acknowledge_all.ensures.tally ∙ ap (λ (n : ℕ). record c.self.inside.tally { totals = more_acks c.self.inside.tally.totals n }) many) i;
      };
      total = total;
      share = c.acknowledge_all.ensures.share ∙ ap (more_acks c.args.share.now) many;
    })

pub returns-clause-disk : goal.returns-clause-disk
returns-clause-disk g c =
    let b : BoardView g.row.D.Denot g.row.T.Denot = (record { job = arc_value c.self.inside.job; journal = c.self.inside.journal; timer = c.self.inside.timer; course = c.self.inside.course; total = c.self.inside.total; tally = c.self.inside.tally }) in
    let results : List RangeResult = kept c.self.inside.course.leases c.args.group in
    let turns : TakeTurns (arc_value c.self.inside.job) c.self.inside.course.leases results = subst (λ (j : Job). TakeTurns j c.self.inside.course.leases results) c.deref.ensures c.pick-picked.ensures.turns in
    let values = subst (λ (l : List Member). AreValues c.self.inside.journal.job l) (sym c.pick-picked.ensures.members) (values_of g.D.Disk.face b c.self.invariant c.failed.ensures.valid results turns) in
    subst (λ (v : BoardView g.row.D.Denot g.row.T.Denot). Went (Serves g.D.Disk.face g.D.Disk.loans v.job) v.journal.disk c.store_group.new.self.disk) c.self.view_is
    (subst (λ (j : Job). Went (Serves g.D.Disk.face g.D.Disk.loans j) c.self.inside.journal.disk c.store_group.new.self.disk) c.self.invariant.one_job
    (serves_stored g.D.Disk.face g.D.Disk.loans c.self.inside.journal.job c.self.inside.journal.disk c.store_group.new.self.disk c.in_default-store_group.ensures.disk (c.in_default-store_group.ensures.made values) (c.in_default-store_group.ensures.goes_on values)))

pub returns-clause-begun : goal.returns-clause-begun
returns-clause-begun g c range =
    let b : BoardView g.row.D.Denot g.row.T.Denot = (record { job = arc_value c.self.inside.job; journal = c.self.inside.journal; timer = c.self.inside.timer; course = c.self.inside.course; total = c.self.inside.total; tally = c.self.inside.tally }) in
    let results : List RangeResult = kept c.self.inside.course.leases c.args.group in
    let turns : TakeTurns (arc_value c.self.inside.job) c.self.inside.course.leases results = subst (λ (j : Job). TakeTurns j c.self.inside.course.leases results) c.deref.ensures c.pick-picked.ensures.turns in
    let after : c.store_group.new.self ≡ record { disk = c.store_group.new.self.disk; job = c.self.inside.journal.job; table = filled c.self.inside.journal.table (map member_for results); failed = false } =
    subst (λ (l : List Member). c.store_group.new.self ≡ record { disk = c.store_group.new.self.disk; job = c.self.inside.journal.job; table = filled c.self.inside.journal.table l; failed = false }) c.pick-picked.ensures.members c.in_default-store_group.ensures.ok in
    let table : c.store_group.new.self.table ≡ filled c.self.inside.journal.table (map member_for results) = ap (λ (k : JournalView g.row.D.Denot). k.table) after in
    subst (λ (v : BoardView g.row.D.Denot g.row.T.Denot). (if is_begun c.acknowledge_all.new.course range then slot_at c.store_group.new.self.table range else None) ≡ begun v range) c.self.view_is
    (begun_of g.D.Disk.face b c.self.invariant c.failed.ensures.valid results turns c.store_group.new.self.table c.acknowledge_all.new.course table c.acknowledge_all.ensures.begun range)
