use Rattle.qh_plan.proofs.TotalLemmas.{is_total}
use Rattle.qh_plan.proofs.meaning.total_is_the_least_path_or_the_sum.Goals as goal

pub returns : goal.returns
returns c = is_total
