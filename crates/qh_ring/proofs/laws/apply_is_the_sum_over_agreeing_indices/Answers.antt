use Rattle.qh_ring.proofs.AgreeLemmas.{applied_agrees}
use Rattle.qh_ring.proofs.laws.apply_is_the_sum_over_agreeing_indices.Goals as goal

pub returns : goal.returns
returns c = λ m qs v n x distinct less below. applied_agrees m qs v n x distinct less below
