use Rattle.std.proofs.Common.{rules, MutBor, ◌≡◌, ℕ, List, length, sym, ap, subst, ◌∙◌}
use Rattle.std.specs.Prelude.{IfSome, Option}
use Rattle.std.specs.Option.{ForSome}
use Rattle.std.specs.Arc.{arc_value}
use Rattle.qh_disk.specs.Disk.{Reads}
use Rattle.qh_slots.specs.Moments.{GoesOn}
use Rattle.qh_board.specs.Board.{BeganWith}
use Rattle.qh_run.specs.Ends.{answer_of, IsBounded}
use Rattle.qh_run.specs.Carrying.{Completes}
use Rattle.qh_limits.specs.Counts.{RoseBy}
use Rattle.qh_plan.specs.Jobs.{Job, ranges}
use Rattle.std.specs.List.{count_by}
use Rattle.qh_slots.specs.Record.{count_bare}
use Rattle.qh_lease.specs.Lease.{is_fresh, NonePasses}
use Rattle.qh_run.specs.Carrying.{count_fresh}
use Rattle.qh_core.specs.Replay.{CourseView, is_open}
use Rattle.qh_run.proofs.CountLemmas.{bare_fresh}
use Rattle.qh_run.proofs.CompleteLemmas.{journal_goes_on, disk_still, full_started}
use Rattle.qh_run.proofs.over.run_by.Goals as goal

pub returns-in_default-clause-disk : goal.returns-in_default-clause-disk
returns-in_default-clause-disk g c = disk_still g.D.Disk.face g.D.Disk.loans (arc_value c.args.job) c.args.journal.disk c.into_disk.result c.into_disk.ensures

pub returns-in_default-clause-goes_on : goal.returns-in_default-clause-goes_on
returns-in_default-clause-goes_on g c =
    journal_goes_on g.D.Disk.face c.args.journal (arc_value c.args.job) c.into_disk.result c.requires.job c.requires.whole c.failed.ensures.valid c.into_disk.ensures

pub returns-in-Err-clause-disk : goal.returns-in-Err-clause-disk
returns-in-Err-clause-disk g c = disk_still g.D.Disk.face g.D.Disk.loans (arc_value c.args.job) c.args.journal.disk c.in-Err.unmade.disk c.in-Err.ensures.back

pub returns-in-Err-clause-goes_on : goal.returns-in-Err-clause-goes_on
returns-in-Err-clause-goes_on g c =
    journal_goes_on g.D.Disk.face c.args.journal (arc_value c.args.job) c.in-Err.unmade.disk c.requires.job c.requires.whole c.failed.ensures.valid c.in-Err.ensures.back

pub returns-clause-granted : goal.returns-clause-granted
returns-clause-granted g c some =
    let told = g.T.Timer.granted_count in
    let j = arc_value c.args.job in
    let table = c.args.journal.table in
    let board = c.in-Ok-attach.board in
    let after = c.run_to_end-end.new.board in
    let count : length table ≡ ranges j = c.failed.ensures.valid.count ∙ ap ranges c.requires.job in
    let fresh : count_bare j table ≡ count_fresh board =
    bare_fresh j table count ∙ sym (ap (λ (course : CourseView). count_by is_fresh course.leases) c.in-Ok-attach.ensures.course) in
    let start : told board.timer.now ≡ told c.args.timer.now = ap (λ (m : MutBor g.row.T.Denot). told m.now) c.in-Ok-attach.ensures.timer in
    let rose : RoseBy (count_bare j table) (told c.args.timer.now) (told after.timer.now) =
    subst (λ n. RoseBy n (told c.args.timer.now) (told after.timer.now)) (sym fresh) (subst (λ n. RoseBy (count_fresh board) n (told after.timer.now)) start (c.run_to_end-end.ensures.granted some)) in
    search (rules, rose)

pub returns-clause-whole : goal.returns-clause-whole
returns-clause-whole g c =
    let j = arc_value c.args.job in
    let table = c.args.journal.table in
    let board = c.in-Ok-attach.board in
    let began : BeganWith board table = record { each = λ r. sym (c.in-Ok-attach.ensures.begun r) } in
    let ends = answer_of c.run_to_end-end.result in
    subst (λ (disk : Option g.row.D.Denot). IfSome ends (Completes g.D.Disk.face j table disk)) (sym c.part-disk.ensures.disk)
    (subst (λ (i : Job). IfSome ends (Completes g.D.Disk.face i table c.run_to_end-end.new.board.journal.disk)) c.in-Ok-attach.ensures.job (c.run_to_end-end.ensures.whole table began))

pub returns-clause-goes_on : goal.returns-clause-goes_on
returns-clause-goes_on g c =
    let table = c.args.journal.table in
    let board = c.in-Ok-attach.board in
    let began : BeganWith board table = record { each = λ r. sym (c.in-Ok-attach.ensures.begun r) } in
    subst (λ (disk : Option g.row.D.Denot). ForSome disk (λ e. Reads (g.D.Disk.face e) (GoesOn (arc_value c.args.job) table))) (sym c.part-disk.ensures.disk)
    (subst (λ (i : Job). ForSome c.run_to_end-end.new.board.journal.disk (λ e. Reads (g.D.Disk.face e) (GoesOn i table))) c.in-Ok-attach.ensures.job (c.run_to_end-end.ensures.goes_on table began))

pub returns-clause-finished : goal.returns-clause-finished
returns-clause-finished g c full =
    let j = arc_value c.args.job in
    let table = c.args.journal.table in
    let board = c.in-Ok-attach.board in
    let count : length table ≡ ranges j = c.failed.ensures.valid.count ∙ ap ranges c.requires.job in
    let none : NonePasses is_open 0 board.course.leases = subst (λ (course : CourseView). NonePasses is_open 0 course.leases) (sym c.in-Ok-attach.ensures.course) (full_started j table count full) in
    c.part-disk.ensures.disk ∙ ap (λ k. k.disk) (c.run_to_end-end.ensures.carries.still none).0 ∙ ap (λ k. k.disk) c.in-Ok-attach.ensures.journal

pub returns-clause-bounded : goal.returns-clause-bounded
returns-clause-bounded g c =
    subst (λ (i : Job). IfSome (answer_of c.run_to_end-end.result) (IsBounded i)) c.in-Ok-attach.ensures.job c.run_to_end-end.ensures.bounded
