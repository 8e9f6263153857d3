use Rattle.qh_request.proofs.Tables.{told_on}
use Rattle.qh_top.proofs.call.answered.Goals as goal

pub returns-in-Err-clause-stopped : goal.returns-in-Err-clause-stopped
returns-in-Err-clause-stopped g c = λ _. record {
  stop = c.in-Err.stop;
  status_is = c.status.ensures;
  cause = c.in-Err.ensures.cause;
  told = told_on g.E.Sink.held g.E.Sink.faults c.args.err.now c.run.new.err c.tell_on.new.err c.run.new.whole c.in-Err.stop c.tell_on.ensures.told c.tell_on.ensures.silent
      _ _ _ c.in-Err.ensures.unsaid c.in-Err.ensures.said;
}
