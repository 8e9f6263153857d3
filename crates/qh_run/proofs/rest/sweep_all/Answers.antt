use Rattle.std.proofs.Common.{subst}
use Rattle.std.specs.Prelude.{IfSome}
use Rattle.qh_run.specs.Ends.{answer_of}
use Rattle.qh_run.specs.Carrying.{Completes}
use Rattle.qh_run.proofs.CompleteLemmas.{began_on}
use Rattle.qh_run.proofs.rest.sweep_all.Goals as goal

pub returns-clause-whole : goal.returns-clause-whole
returns-clause-whole g c s0 began =
    let face = g.D.Disk.face in
    let new = c.sweep.new.board in
    let carries = c.sweep.ensures.carries in
    subst (λ j. IfSome (answer_of c.in_ok-answer.field-0) (Completes face j s0 new.journal.disk)) carries.job
    (c.in_ok-answer.ensures.whole s0 (began_on face g.D.Disk.loans c.args.board.now new s0 carries began))
