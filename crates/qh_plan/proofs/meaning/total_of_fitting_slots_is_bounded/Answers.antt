use Rattle.qh_plan.proofs.SlotLemmas.{bounded}
use Rattle.qh_plan.proofs.meaning.total_of_fitting_slots_is_bounded.Goals as goal

pub returns : goal.returns
returns c = bounded
