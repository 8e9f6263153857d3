use Rattle.qh_slots.proofs.RunningLemmas.{whole_total}
use Rattle.qh_slots.proofs.total_laws.running_total_is_the_total.Goals as goal

pub returns : goal.returns
returns c = whole_total
