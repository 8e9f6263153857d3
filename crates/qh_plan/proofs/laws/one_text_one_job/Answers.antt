use Rattle.qh_plan.proofs.OneTextLemmas.{one_job}
use Rattle.qh_plan.proofs.laws.one_text_one_job.Goals as goal

pub returns : goal.returns
returns c = one_job
