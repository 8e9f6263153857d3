use Rattle.qh_slots.proofs.OwnerLemmas.{one_owner}
use Rattle.qh_slots.proofs.laws.one_owner.Goals as goal

pub returns : goal.returns
returns c = one_owner
