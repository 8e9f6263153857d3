use Rattle.qh_run_shared.proofs.FactLemmas.{claim_facts}
use Rattle.qh_run_shared.proofs.AnswerLemmas.{claim_known, claim_share, claim_cause}
use Rattle.qh_run_shared.proofs.locked.Locked.claim.Goals as goal

pub invariant_of-self : goal.invariant_of-self
invariant_of-self g c =
    claim_facts g.D.Disk.face g.D.Disk.loans g.M.Named.run g.T.Timer.granted_count g.T.Timer.hears c.self.inside.board c.claim.new.self c.args.share.now c.claim.new.share c.claim.result
    c.self.invariant c.claim.ensures.does c.claim.ensures.begun

pub returns-clause-ticket : goal.returns-clause-ticket
returns-clause-ticket g c =
    claim_known g.D.Disk.face g.D.Disk.loans g.M.Named.run g.T.Timer.due_count g.T.Timer.not_due_count g.T.Timer.may_say c.self.inside.board c.claim.new.self c.claim.result
    c.self.invariant c.claim.ensures.comes

pub returns-clause-share : goal.returns-clause-share
returns-clause-share g c =
    claim_share g.T.Timer.granted_count g.T.Timer.hears c.self.inside.board c.claim.new.self c.args.share.now c.claim.new.share c.claim.result c.claim.ensures.does

pub returns-clause-cause : goal.returns-clause-cause
returns-clause-cause g c = claim_cause c.claim.result
