use Rattle.qh_plan.proofs.LimitLemmas.{are_limits}
use Rattle.qh_plan.proofs.meaning.tests_are_the_limits.Goals as goal

pub returns : goal.returns
returns c = are_limits
