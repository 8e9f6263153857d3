use Rattle.qh_io.proofs.SayingLemmas.{says_append, says_stop}
use Rattle.qh_io.proofs.saying.say_both.Goals as goal

pub returns-then-not-say-clause-says : goal.returns-then-not-say-clause-says
returns-then-not-say-clause-says g c = says_stop _ _ _ _ _ c.args.second.now c.say.ensures.says (c.say.ensures.cause c.if-not-say.true)

pub returns-clause-says : goal.returns-clause-says
returns-clause-says g c = says_append _ _ _ _ _ _ _ _ c.say.ensures.says.later (c.say.ensures.whole c.if-not-say.false) c.say-2.ensures.says
