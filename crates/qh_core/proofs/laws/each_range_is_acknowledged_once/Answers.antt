use Rattle.qh_core.proofs.OnceLemmas.{acked_once}
use Rattle.qh_core.proofs.laws.each_range_is_acknowledged_once.Goals as goal

pub returns : goal.returns
returns c = λ course range is_course. acked_once course range is_course.replay
