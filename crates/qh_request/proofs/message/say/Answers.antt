use Rattle.qh_request.proofs.Saying.{says_whole, says_part}
use Rattle.qh_request.proofs.message.say.Goals as goal

pub returns-in-Ok-clause-says : goal.returns-in-Ok-clause-says
returns-in-Ok-clause-says g c = says_whole _ _ _ _ _ c.in-Ok.ensures.later c.in-Ok.ensures.whole

pub returns-in-Err-clause-says : goal.returns-in-Err-clause-says
returns-in-Err-clause-says g c = says_part _ _ _ _ _ _ c.in-Err.ensures.later c.in-Err.ensures.part.1 c.in-Err.ensures.cause
