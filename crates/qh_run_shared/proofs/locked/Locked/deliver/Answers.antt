use Rattle.qh_run_shared.proofs.FactLemmas.{deliver_facts}
use Rattle.qh_run_shared.proofs.AnswerLemmas.{deliver_share, deliver_cause}
use Rattle.qh_run_shared.proofs.locked.Locked.deliver.Goals as goal

pub invariant_of-self : goal.invariant_of-self
invariant_of-self g c =
    deliver_facts g.D.Disk.face g.D.Disk.loans g.M.Named.run c.self.inside.board c.deliver.new.self c.args.share.now c.deliver.new.share c.args.outcome c.deliver.result
    c.self.invariant c.deliver.ensures.comes c.deliver.ensures.does c.deliver.ensures.disk c.deliver.ensures.begun

pub returns-clause-share : goal.returns-clause-share
returns-clause-share g c =
    deliver_share g.D.Disk.face c.self.inside.board c.deliver.new.self c.args.share.now c.deliver.new.share c.args.outcome c.deliver.result c.deliver.ensures.does

pub returns-clause-cause : goal.returns-clause-cause
returns-clause-cause g c =
    deliver_cause g.D.Disk.face g.D.Disk.loans g.M.Named.run c.self.inside.board c.args.outcome c.deliver.result c.self.invariant c.deliver.ensures.comes
