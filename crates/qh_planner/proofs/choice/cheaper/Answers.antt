use Rattle.std.proofs.Common.{ap, refl}
use Rattle.qh_planner.specs.Choice.{cost_of}
use Rattle.qh_planner.proofs.ChoiceLemmas.{best_past_refused}
use Rattle.qh_planner.proofs.choice.cheaper.Goals as goal

pub returns-in-Refused : goal.returns-in-Refused
returns-in-Refused c = λ rows h. best_past_refused rows c.args.best c.args.row.now h (ap cost_of c.in-Refused.is)

pub returns-in-Allowed : goal.returns-in-Allowed
returns-in-Allowed c = λ rows h. c.cheaper_of.ensures rows c.args.row.now h refl (ap cost_of c.in-Allowed.is)
