use Rattle.std.proofs.Common.{◌≡◌, ◌∙◌}
use Rattle.std.specs.Arc.{arc_value}
use Rattle.qh_run.proofs.CompleteLemmas.{journal_goes_on, disk_still}
use Rattle.qh_run_shared.proofs.OverLemmas.{left_goes_on, rest_serves, rest_leaves, rest_whole, rest_goes_on, rest_bounded, began_worked}
use Rattle.qh_run_shared.proofs.over.run_by.Goals as goal

pub returns-in_default-clause-disk : goal.returns-in_default-clause-disk
returns-in_default-clause-disk g c = disk_still g.D.Disk.face g.D.Disk.loans (arc_value c.args.job) c.args.journal.disk c.into_disk.result c.into_disk.ensures

pub returns-in_default-clause-goes_on : goal.returns-in_default-clause-goes_on
returns-in_default-clause-goes_on g c =
    journal_goes_on g.D.Disk.face c.args.journal (arc_value c.args.job) c.into_disk.result c.requires.job c.requires.whole c.failed.ensures.valid c.into_disk.ensures

pub returns-in-Err-clause-disk : goal.returns-in-Err-clause-disk
returns-in-Err-clause-disk g c = disk_still g.D.Disk.face g.D.Disk.loans (arc_value c.args.job) c.args.journal.disk c.in-Err.unmade.disk c.in-Err.ensures.back

pub returns-in-Err-clause-goes_on : goal.returns-in-Err-clause-goes_on
returns-in-Err-clause-goes_on g c =
    journal_goes_on g.D.Disk.face c.args.journal (arc_value c.args.job) c.in-Err.unmade.disk c.requires.job c.requires.whole c.failed.ensures.valid c.in-Err.ensures.back

pub returns-then-is_halted-clause-goes_on : goal.returns-then-is_halted-clause-goes_on
returns-then-is_halted-clause-goes_on g c =
    let b = c.in-Ok-attach.board in
    let w = c.work_where_open-board.result.board in
    let j = arc_value c.args.job in
    let job : b.job ≡ j = c.in-Ok-attach.ensures.job ∙ c.in-Ok.ensures in
    let shared = c.work_where_open-board.ensures.shared in
    let started = c.in-Ok-attach.ensures in
    left_goes_on g.D.Disk.face g.D.Disk.loans j c.args.journal b w job started.journal shared c.args.journal.table c.into_disk-then-is_halted.result started.begun
    c.finished.ensures.valid c.into_disk-then-is_halted.ensures

pub returns-then-not-ready-clause-goes_on : goal.returns-then-not-ready-clause-goes_on
returns-then-not-ready-clause-goes_on g c =
    let b = c.in-Ok-attach.board in
    let w = c.work_where_open-board.result.board in
    let j = arc_value c.args.job in
    let job : b.job ≡ j = c.in-Ok-attach.ensures.job ∙ c.in-Ok.ensures in
    let shared = c.work_where_open-board.ensures.shared in
    let started = c.in-Ok-attach.ensures in
    left_goes_on g.D.Disk.face g.D.Disk.loans j c.args.journal b w job started.journal shared c.args.journal.table c.into_disk-then-not-ready.result started.begun
    c.finished.ensures.valid c.into_disk-then-not-ready.ensures

pub returns-clause-whole : goal.returns-clause-whole
returns-clause-whole g c =
    let b = c.in-Ok-attach.board in
    let w = c.work_where_open-board.result.board in
    let j = arc_value c.args.job in
    let job : b.job ≡ j = c.in-Ok-attach.ensures.job ∙ c.in-Ok.ensures in
    let shared = c.work_where_open-board.ensures.shared in
    let started = c.in-Ok-attach.ensures in
    let rest = c.run_rest-end in
    let e = rest.new.board in
    rest_whole g.D.Disk.face g.D.Disk.loans j c.args.journal b w job started.journal shared e rest.ensures.carries c.into_disk-2.result c.into_disk-2.ensures c.args.journal.table rest.result
    (rest.ensures.whole c.args.journal.table (began_worked g.D.Disk.face g.D.Disk.loans j c.args.journal b w job started.journal shared c.args.journal.table started.begun))

pub returns-clause-bounded : goal.returns-clause-bounded
returns-clause-bounded g c =
    let b = c.in-Ok-attach.board in
    let w = c.work_where_open-board.result.board in
    let j = arc_value c.args.job in
    let job : b.job ≡ j = c.in-Ok-attach.ensures.job ∙ c.in-Ok.ensures in
    let shared = c.work_where_open-board.ensures.shared in
    let started = c.in-Ok-attach.ensures in
    let rest = c.run_rest-end in
    let e = rest.new.board in
    rest_bounded g.D.Disk.face g.D.Disk.loans j c.args.journal b w job started.journal shared e rest.ensures.carries c.into_disk-2.result c.into_disk-2.ensures rest.result rest.ensures.bounded

pub returns-clause-cause : goal.returns-clause-cause
returns-clause-cause g c =
    let b = c.in-Ok-attach.board in
    let w = c.work_where_open-board.result.board in
    let j = arc_value c.args.job in
    let job : b.job ≡ j = c.in-Ok-attach.ensures.job ∙ c.in-Ok.ensures in
    let shared = c.work_where_open-board.ensures.shared in
    let started = c.in-Ok-attach.ensures in
    let rest = c.run_rest-end in
    let e = rest.new.board in
    rest_leaves g.D.Disk.face g.D.Disk.loans j c.args.journal b w job started.journal shared e rest.ensures.carries c.into_disk-2.result c.into_disk-2.ensures rest.result rest.ensures.cause

pub returns-clause-disk : goal.returns-clause-disk
returns-clause-disk g c =
    let b = c.in-Ok-attach.board in
    let w = c.work_where_open-board.result.board in
    let j = arc_value c.args.job in
    let job : b.job ≡ j = c.in-Ok-attach.ensures.job ∙ c.in-Ok.ensures in
    let shared = c.work_where_open-board.ensures.shared in
    let started = c.in-Ok-attach.ensures in
    let rest = c.run_rest-end in
    let e = rest.new.board in
    rest_serves g.D.Disk.face g.D.Disk.loans j c.args.journal b w job started.journal shared e rest.ensures.carries c.into_disk-2.result c.into_disk-2.ensures

pub returns-clause-goes_on : goal.returns-clause-goes_on
returns-clause-goes_on g c =
    let b = c.in-Ok-attach.board in
    let w = c.work_where_open-board.result.board in
    let j = arc_value c.args.job in
    let job : b.job ≡ j = c.in-Ok-attach.ensures.job ∙ c.in-Ok.ensures in
    let shared = c.work_where_open-board.ensures.shared in
    let started = c.in-Ok-attach.ensures in
    let rest = c.run_rest-end in
    let e = rest.new.board in
    rest_goes_on g.D.Disk.face g.D.Disk.loans j c.args.journal b w job started.journal shared e rest.ensures.carries c.into_disk-2.result c.into_disk-2.ensures c.args.journal.table
    (rest.ensures.goes_on c.args.journal.table (began_worked g.D.Disk.face g.D.Disk.loans j c.args.journal b w job started.journal shared c.args.journal.table started.begun))
