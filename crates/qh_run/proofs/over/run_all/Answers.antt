use Rattle.std.proofs.Common.{subst}
use Rattle.std.specs.Prelude.{IfSome}
use Rattle.qh_run.specs.Ends.{answer_of}
use Rattle.qh_run.specs.Carrying.{Carries, Completes}
use Rattle.qh_run.proofs.CarryLemmas.{carries_on}
use Rattle.qh_run.proofs.CompleteLemmas.{began_on}
use Rattle.qh_run.proofs.over.run_all.Goals as goal

pub returns-in_err-sweep-clause-carries : goal.returns-in_err-sweep-clause-carries
returns-in_err-sweep-clause-carries g c =
    carries_on g.D.Disk.face g.D.Disk.loans c.args.board.now c.take_turns.new.board c.sweep.new.board c.take_turns.ensures.carries c.sweep.ensures.carries

pub returns-in_err-answer-clause-carries : goal.returns-in_err-answer-clause-carries
returns-in_err-answer-clause-carries g c =
    carries_on g.D.Disk.face g.D.Disk.loans c.args.board.now c.take_turns.new.board c.sweep.new.board c.take_turns.ensures.carries c.sweep.ensures.carries

pub returns-clause-carries : goal.returns-clause-carries
returns-clause-carries g c =
    carries_on g.D.Disk.face g.D.Disk.loans c.args.board.now c.take_turns.new.board c.sweep.new.board c.take_turns.ensures.carries c.sweep.ensures.carries

pub returns-clause-whole : goal.returns-clause-whole
returns-clause-whole g c s0 began =
    let face = g.D.Disk.face in
    let old = c.args.board.now in
    let new = c.sweep.new.board in
    let carries : Carries face g.D.Disk.loans old new = carries_on face g.D.Disk.loans old c.take_turns.new.board new c.take_turns.ensures.carries c.sweep.ensures.carries in
    subst (λ j. IfSome (answer_of c.in_ok-answer.field-0) (Completes face j s0 new.journal.disk)) carries.job
    (c.in_ok-answer.ensures.whole s0 (began_on face g.D.Disk.loans old new s0 carries began))
