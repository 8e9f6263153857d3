use Rattle.qh_workers.proofs.Counts.{served}
use Rattle.qh_workers.proofs.worker.serve_claimed.Goals as goal

pub returns-in-Granted-clause-acked : goal.returns-in-Granted-clause-acked
returns-in-Granted-clause-acked g c =
    served c.serve.result (g.K.Desk.may_repeat c.args.bench.now.desk.now) c.args.share.now c.claim.new.share c.serve.new.share c.in-Granted.ensures.share c.serve.ensures.acked
