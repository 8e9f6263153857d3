use Rattle.std.proofs.Common.{◌≡◌, ap, subst, ◌∙◌}
use Rattle.std.specs.Arc.{arc_value}
use Rattle.qh_disk.specs.History.{face_of}
use Rattle.qh_run.proofs.KeptLemmas.{unkept_whole, unkept_ends}
use Rattle.qh_run_shared.proofs.run.run_unkept_shared.Goals as goal

pub returns-clause-whole : goal.returns-clause-whole
returns-clause-whole g c =
    let left = c.run_journal-end.result in
    unkept_whole _ (arc_value c.args.job) c.in-Ok.journal.table left.disk left.end (ap (λ k. k.table) c.in-Ok.ensures) c.run_journal-end.ensures.whole

pub returns-clause-ends : goal.returns-clause-ends
returns-clause-ends g c =
    let left = c.run_journal-end.result in
    unkept_ends face_of c.in-Ok.journal.disk left.disk left.end (ap (λ k. k.disk) c.in-Ok.ensures) c.run_journal-end.ensures.cause
