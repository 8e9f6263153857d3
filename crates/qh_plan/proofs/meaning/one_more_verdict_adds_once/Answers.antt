use Rattle.qh_plan.proofs.SlotLemmas.{one_more}
use Rattle.qh_plan.proofs.meaning.one_more_verdict_adds_once.Goals as goal

pub returns : goal.returns
returns c = one_more
