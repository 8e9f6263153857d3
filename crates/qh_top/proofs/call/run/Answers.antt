use Rattle.qh_request.proofs.Tables.{words_unsaid}
use Rattle.qh_top.proofs.call.run.Goals as goal

pub returns-in-Err-Memory-clause-said : goal.returns-in-Err-Memory-clause-said
returns-in-Err-Memory-clause-said g c = words_unsaid g.E.Sink.held g.E.Sink.faults c.args.err.now c.args.whole.now c.requires _ _ _
