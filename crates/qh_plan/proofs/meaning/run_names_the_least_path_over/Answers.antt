use Rattle.qh_plan.proofs.OverLemmas.{names_least}
use Rattle.qh_plan.proofs.meaning.run_names_the_least_path_over.Goals as goal

pub returns : goal.returns
returns c = names_least
