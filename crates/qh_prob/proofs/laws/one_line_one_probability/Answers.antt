use Rattle.qh_prob.proofs.LineLemmas.{one_reading}
use Rattle.qh_prob.proofs.laws.one_line_one_probability.Goals as goal

pub returns : goal.returns
returns c = one_reading
