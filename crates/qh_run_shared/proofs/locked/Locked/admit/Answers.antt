use Rattle.qh_run_shared.proofs.FactLemmas.{admit_facts}
use Rattle.qh_run_shared.proofs.AnswerLemmas.{admit_known, admit_share, admit_cause}
use Rattle.qh_run_shared.proofs.locked.Locked.admit.Goals as goal

pub invariant_of-self : goal.invariant_of-self
invariant_of-self g c =
    admit_facts g.D.Disk.face g.D.Disk.loans g.M.Named.run g.T.Timer.granted_count g.T.Timer.hears c.self.inside.board c.admit.new.self c.args.share.now c.admit.new.share c.admit.result
    c.self.invariant c.admit.ensures.does c.admit.ensures.begun

pub returns-clause-ticket : goal.returns-clause-ticket
returns-clause-ticket g c =
    admit_known g.D.Disk.face g.D.Disk.loans g.M.Named.run c.self.inside.board c.args.range c.admit.result c.requires c.admit.ensures.comes

pub returns-clause-share : goal.returns-clause-share
returns-clause-share g c =
    admit_share g.T.Timer.granted_count g.T.Timer.hears c.self.inside.board c.admit.new.self c.args.share.now c.admit.new.share c.admit.result c.admit.ensures.does

pub returns-clause-cause : goal.returns-clause-cause
returns-clause-cause g c = admit_cause c.admit.result
