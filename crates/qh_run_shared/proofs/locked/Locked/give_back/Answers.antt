use Rattle.qh_run_shared.proofs.FactLemmas.{back_facts}
use Rattle.qh_run_shared.proofs.AnswerLemmas.{back_share}
use Rattle.qh_run_shared.proofs.locked.Locked.give_back.Goals as goal

pub invariant_of-self : goal.invariant_of-self
invariant_of-self g c =
    back_facts g.D.Disk.face g.D.Disk.loans g.M.Named.run c.self.inside.board c.give_back.new.self c.args.share.now c.give_back.new.share c.args.ticket c.give_back.result
    c.self.invariant c.give_back.ensures.back c.give_back.ensures.same c.give_back.ensures.begun

pub returns-clause-share : goal.returns-clause-share
returns-clause-share g c =
    back_share c.self.inside.board c.give_back.new.self c.args.share.now c.give_back.new.share c.args.ticket c.give_back.result c.give_back.ensures.back c.give_back.ensures.same
