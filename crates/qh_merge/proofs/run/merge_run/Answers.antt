use Rattle.std.proofs.Common.{sym, ◌∙◌}
use Rattle.qh_io.specs.Saying.{Says, seen}
use Rattle.qh_merge.proofs.EndLemmas.{is_over, is_printed}
use Rattle.qh_merge.proofs.run.merge_run.Goals as goal

pub returns-in-Ok-clause-exact : goal.returns-in-Ok-clause-exact
returns-in-Ok-clause-exact g c = λ made zero.
    is_printed g.D.Disk.face c.run.new.disks (seen g.O.Sink.held g.O.Sink.faults c.args.out.now c.run.new.out) made c.in-Ok.ensures.printed

pub returns-in-Err-clause-over : goal.returns-in-Err-clause-over
returns-in-Err-clause-over g c = λ made three.
    is_over g.D.Disk.face c.args.disks.now c.run.new.disks (seen g.O.Sink.held g.O.Sink.faults c.args.out.now c.run.new.out) (Says (seen g.E.Sink.held g.E.Sink.faults c.args.err.now c.tell.new.err))
    c.in-Err.stop made (sym c.status.ensures ∙ three) c.in-Err.ensures.cause c.tell.ensures
