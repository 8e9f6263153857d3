use Rattle.qh_plan.proofs.SlotLemmas.{parted}
use Rattle.qh_plan.proofs.meaning.total_is_two_parts.Goals as goal

pub returns : goal.returns
returns c = parted
