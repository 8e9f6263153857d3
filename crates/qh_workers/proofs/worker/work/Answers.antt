use Rattle.qh_workers.proofs.Counts.{acked_on, answered_on}
use Rattle.qh_workers.proofs.worker.work.Goals as goal

pub returns-clause-drained : goal.returns-clause-drained
returns-clause-drained g c drained once =
    acked_on c.args.share.now c.serve_draws.new.share c.serve_claims.new.share (c.in_default-serve_draws.ensures.acked once) (c.serve_claims.ensures.acked drained once)

pub returns-clause-memory : goal.returns-clause-memory
returns-clause-memory g c memory once kept =
    answered_on c.args.share.now c.serve_draws.new.share c.serve_claims.new.share (c.in_default-serve_draws.ensures.acked once) (c.serve_claims.ensures.back memory once kept)
