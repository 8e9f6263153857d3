use Rattle.qh_plan.proofs.SlotLemmas.{total_same}
use Rattle.qh_plan.proofs.meaning.total_depends_on_the_ranges_alone.Goals as goal

pub returns : goal.returns
returns c = total_same
