use Rattle.std.proofs.Common.{subst}
use Rattle.std.specs.Io.KnownBytes.{Appends}
use Rattle.qh_request.specs.Stops.{Says, attach_text}
use Rattle.qh_request.proofs.Saying.{says_append, says_stop}
use Rattle.qh_request.proofs.message.tell_attach.Goals as goal

pub returns-then-not-say : goal.returns-then-not-say
returns-then-not-say g c =
    says_stop _ _ _ _ _ (attach_text c.args.fault) (subst (Says _) c.as_bytes.ensures.value c.say.ensures.says) (c.say.ensures.cause c.if-not-say.true)

pub returns : goal.returns
returns g c =
    says_append _ _ _ _ _ _ _ _ c.say.ensures.says.later
    (subst (Appends (g.E.Sink.held c.args.err.now) (g.E.Sink.held c.say.new.err)) c.as_bytes.ensures.value (c.say.ensures.whole c.if-not-say.false)) c.tell_cause.ensures
