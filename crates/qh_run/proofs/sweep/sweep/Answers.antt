use Rattle.std.proofs.Common.{◌∙◌}
use Rattle.qh_run.proofs.CarryLemmas.{carries_on}
use Rattle.qh_run.proofs.SweepLemmas.{swept_on}
use Rattle.qh_run.proofs.sweep.sweep.Goals as goal

pub returns-in_err-record_group-clause-carries : goal.returns-in_err-record_group-clause-carries
returns-in_err-record_group-clause-carries g c =
    carries_on g.D.Disk.face g.D.Disk.loans c.args.board.now c.loop-from.board c.record_group.new.board c.loop-from.invariant.carries c.record_group.ensures.carries

pub loop-from-preserved : goal.loop-from-preserved
loop-from-preserved g c =
    let gathered = c.in_ok-group.field-0 in record {
      carries = carries_on g.D.Disk.face g.D.Disk.loans c.args.board.now c.loop-from.board c.record_group.new.board c.loop-from.invariant.carries c.record_group.ensures.carries;
      worker = c.gather.ensures.worker ∙ c.loop-from.invariant.worker;
      timer = c.record_group.ensures.timer ∙ c.loop-from.invariant.timer;
      running = c.in_ok-record_group.ensures.running;
      swept = swept_on c.loop-from.board.job c.loop-from.board.course.leases c.record_group.new.board.course.leases c.loop-from.from gathered.next gathered.group
          c.in_ok-group.ensures.gathered c.in_ok-record_group.ensures.recorded c.loop-from.invariant.swept;
    }
