use Rattle.qh_slots.proofs.StandLemmas.{closed, closed1}
use Rattle.qh_slots.proofs.laws.closed_has_none.Goals as goal

pub returns-clause-format_2 : goal.returns-clause-format_2
returns-clause-format_2 c = closed

pub returns-clause-format_1 : goal.returns-clause-format_1
returns-clause-format_1 c = closed1
