use Rattle.std.proofs.Common.{◌≡◌, sym, ap, subst, MutBor}
use Rattle.qh_limits.specs.Counts.{Rose}
use Rattle.qh_lease.specs.Lease.{is_fresh}
use Rattle.qh_board.proofs.BoardLemmas.{next_known}
use Rattle.qh_run.proofs.CountLemmas.{none_counted, fresh_turn}
use Rattle.qh_run.proofs.CarryLemmas.{claim_carries, carries_on}
use Rattle.qh_run.proofs.ranges.turn.Goals as goal

pub returns-in-Drained-clause-turned : goal.returns-in-Drained-clause-turned
returns-in-Drained-clause-turned g c = (c.in-Drained.ensures.does.told, none_counted is_fresh c.args.board.now.course.leases c.in-Drained.ensures.comes.1.fresh)

pub returns-in-Drained-clause-carries : goal.returns-in-Drained-clause-carries
returns-in-Drained-clause-carries g c =
    claim_carries g.D.Disk.face g.D.Disk.loans g.T.Timer.due_count g.T.Timer.not_due_count g.T.Timer.may_say g.T.Timer.granted_count g.T.Timer.hears c.args.board.now c.claim.new.self c.args.share.now c.claim.new.share
    c.claim.result c.claim.ensures.comes c.claim.ensures.does c.claim.ensures.begun

pub returns-in_err-work_on-in-Granted-clause-carries : goal.returns-in_err-work_on-in-Granted-clause-carries
returns-in_err-work_on-in-Granted-clause-carries g c =
    carries_on g.D.Disk.face g.D.Disk.loans c.args.board.now c.claim.new.self c.work_on.new.board
    (claim_carries g.D.Disk.face g.D.Disk.loans g.T.Timer.due_count g.T.Timer.not_due_count g.T.Timer.may_say g.T.Timer.granted_count g.T.Timer.hears c.args.board.now c.claim.new.self c.args.share.now c.claim.new.share
    c.claim.result c.claim.ensures.comes c.claim.ensures.does c.claim.ensures.begun) c.work_on.ensures.carries

pub returns-in_ok-work_on-in-Granted-clause-carries : goal.returns-in_ok-work_on-in-Granted-clause-carries
returns-in_ok-work_on-in-Granted-clause-carries g c =
    carries_on g.D.Disk.face g.D.Disk.loans c.args.board.now c.claim.new.self c.work_on.new.board
    (claim_carries g.D.Disk.face g.D.Disk.loans g.T.Timer.due_count g.T.Timer.not_due_count g.T.Timer.may_say g.T.Timer.granted_count g.T.Timer.hears c.args.board.now c.claim.new.self c.args.share.now c.claim.new.share
    c.claim.result c.claim.ensures.comes c.claim.ensures.does c.claim.ensures.begun) c.work_on.ensures.carries

pub returns-in_ok-work_on-in-Granted-clause-turned : goal.returns-in_ok-work_on-in-Granted-clause-turned
returns-in_ok-work_on-in-Granted-clause-turned g c =
    let t = c.in-Granted.ticket in
    let old = c.args.board.now in
    let granted = c.in-Granted.ensures.does in
    let known = next_known g.T.Timer.due_count g.T.Timer.not_due_count g.T.Timer.may_say old.course.leases old.timer.now c.claim.new.self.timer.now t.range c.in-Granted.ensures.comes.1 in (
      subst (λ n. Rose (g.T.Timer.granted_count old.timer.now) n) (sym (ap (λ (m : MutBor g.row.T.Denot). g.T.Timer.granted_count m.now) c.work_on.ensures.timer)) granted.told,
      fresh_turn old.course.leases c.claim.new.self.course.leases c.work_on.new.board.course.leases t.range t.attempt known.0
          (ap (λ b. b.course.leases) granted.board) c.in_ok-work_on-in-Granted.ensures.acked,
    )
