use Rattle.qh_prob.proofs.RingLemmas.{squared_magnitude}
use Rattle.qh_prob.proofs.laws.probability_is_the_squared_magnitude.Goals as goal

pub returns : goal.returns
returns c = squared_magnitude
