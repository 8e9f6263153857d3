use Rattle.qh_planner.proofs.ChoiceLemmas.{best_first, best_of_two}
use Rattle.qh_planner.proofs.choice.cheaper_of.Goals as goal

pub returns-in-None : goal.returns-in-None
returns-in-None c = λ rows row h size e. best_first rows c.args.best c.args.found row c.in-None.is h size e

pub returns-in-Some : goal.returns-in-Some
returns-in-Some c = λ rows row h size e. best_of_two rows c.args.best c.in-Some.choice c.args.found c.lesser.result row c.in-Some.is h size e c.lesser.ensures.first c.lesser.ensures.second
