use Rattle.qh_prob.proofs.TextLemmas.{one_text}
use Rattle.qh_prob.proofs.laws.one_text_of_probabilities.Goals as goal

pub returns : goal.returns
returns c = one_text
