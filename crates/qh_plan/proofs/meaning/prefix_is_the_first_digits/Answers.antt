use Rattle.qh_plan.proofs.PrefixLemmas.{prefix_of_job}
use Rattle.qh_plan.proofs.meaning.prefix_is_the_first_digits.Goals as goal

pub returns : goal.returns
returns c = prefix_of_job
