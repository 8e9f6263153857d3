use Rattle.qh_planner.proofs.ChoiceLemmas.{chosen_best, none_allowed}
use Rattle.qh_planner.proofs.laws.chosen_cut_is_best.Goals as goal

pub returns : goal.returns
returns c = record { chosen = chosen_best; none = none_allowed }
