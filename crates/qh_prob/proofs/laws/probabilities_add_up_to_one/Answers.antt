use Rattle.qh_prob.proofs.TotalLemmas.{add_up}
use Rattle.qh_prob.proofs.laws.probabilities_add_up_to_one.Goals as goal

pub returns : goal.returns
returns c = add_up
