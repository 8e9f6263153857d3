use Rattle.std.proofs.Common.{◌≤◌, length, get_or, arith}
use Rattle.qh_board.specs.declared.picking.Entry.{Entry}
use Rattle.qh_board.proofs.PickLemmas.{IsNextEntry, next_entry, turning_start, turning_more, turning_waits, turning_addable, turning_end}
use Rattle.qh_board.proofs.delivering.acknowledge_all.Goals as goal

pub loop-entry-init : goal.loop-entry-init
loop-entry-init g c = turning_start c.args.job.now c.args.journal.now.table c.args.entries.now c.args.course.now c.args.total.now c.args.tally.now c.args.share.now c.requires.running c.requires.waiting c.requires.behind

pub loop-entry-preserved : goal.loop-entry-preserved
loop-entry-preserved g c =
    let e : Entry = (get_or c.args.entries.now c.loop-entry.entry-index (record { range = 0; attempt = 0 })) in
    let next : IsNextEntry c.args.entries.now c.loop-entry.entry-index e = next_entry c.args.entries.now c.loop-entry.entry-index (record { range = 0; attempt = 0 }) c.loop-entry-test.true in
    turning_more c.args.job.now c.args.journal.now.table c.args.entries.now c.loop-entry.entry-index c.args.course.now c.loop-entry.course c.loop-entry.total c.args.tally.now c.loop-entry.tally c.args.share.now c.loop-entry.share e
    c.acknowledge.new.self c.add_slot.new.total c.ack.new.self c.ack.new.share next c.loop-entry.invariant c.acknowledge.ensures.acked c.acknowledge.ensures.begun c.add_slot.ensures
    c.ack.ensures.totals c.ack.ensures.out c.ack.ensures.settled c.ack.ensures.share

pub add_slot-requires-clause-open : goal.add_slot-requires-clause-open
add_slot-requires-clause-open g c =
    let e : Entry = (get_or c.args.entries.now c.loop-entry.entry-index (record { range = 0; attempt = 0 })) in
    let next : IsNextEntry c.args.entries.now c.loop-entry.entry-index e = next_entry c.args.entries.now c.loop-entry.entry-index (record { range = 0; attempt = 0 }) c.loop-entry-test.true in
    turning_addable c.args.job.now c.args.journal.now.table c.args.entries.now c.loop-entry.entry-index c.args.course.now c.loop-entry.course c.loop-entry.total c.args.tally.now c.loop-entry.tally c.args.share.now c.loop-entry.share e next c.loop-entry.invariant

pub acknowledge-requires : goal.acknowledge-requires
acknowledge-requires g c =
    let e : Entry = (get_or c.args.entries.now c.loop-entry.entry-index (record { range = 0; attempt = 0 })) in
    let next : IsNextEntry c.args.entries.now c.loop-entry.entry-index e = next_entry c.args.entries.now c.loop-entry.entry-index (record { range = 0; attempt = 0 }) c.loop-entry-test.true in
    let waits = turning_waits c.args.job.now c.args.journal.now.table c.args.entries.now c.loop-entry.entry-index c.args.course.now c.loop-entry.course c.loop-entry.total c.args.tally.now c.loop-entry.tally c.args.share.now c.loop-entry.share e next c.loop-entry.invariant in
    record { running = c.loop-entry.invariant.running; known = waits.known; waiting = waits.waiting; attempt = waits.few }

pub returns-clause-course : goal.returns-clause-course
returns-clause-course g c = (turning_end c.args.job.now c.args.journal.now.table c.args.entries.now c.loop-entry.entry-index c.args.course.now c.loop-entry.course c.loop-entry.total c.args.tally.now c.loop-entry.tally c.args.share.now c.loop-entry.share c.loop-entry-test.false c.loop-entry.invariant).0
