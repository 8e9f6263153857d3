use Rattle.std.proofs.Common.{◌≡◌, ap, subst, ◌∙◌}
use Rattle.std.specs.Arc.{arc_value}
use Rattle.qh_limits.specs.Counts.{RoseBy}
use Rattle.qh_disk.specs.History.{face_of}
use Rattle.qh_slots.specs.Record.{count_bare}
use Rattle.qh_run.proofs.KeptLemmas.{unkept_whole, unkept_ends}
use Rattle.qh_run.proofs.CountLemmas.{bare_nones}
use Rattle.qh_run.proofs.run.run_unkept.Goals as goal

pub returns-clause-whole : goal.returns-clause-whole
returns-clause-whole g c =
    let left = c.run_journal-end.result in
    unkept_whole _ (arc_value c.args.job) c.in-Ok.journal.table left.disk left.end (ap (λ k. k.table) c.in-Ok.ensures) c.run_journal-end.ensures.whole

pub returns-clause-ends : goal.returns-clause-ends
returns-clause-ends g c =
    let left = c.run_journal-end.result in
    unkept_ends face_of c.in-Ok.journal.disk left.disk left.end (ap (λ k. k.disk) c.in-Ok.ensures) c.run_journal-end.ensures.cause

pub returns-clause-granted : goal.returns-clause-granted
returns-clause-granted g c some =
    let told = g.T.Timer.granted_count in
    let j = arc_value c.args.job in
    subst (λ n. RoseBy n (told c.args.timer.now) (told c.run_journal-end.new.timer))
    (ap (λ k. count_bare j k.table) c.in-Ok.ensures ∙ bare_nones j) (c.run_journal-end.ensures.granted some)
