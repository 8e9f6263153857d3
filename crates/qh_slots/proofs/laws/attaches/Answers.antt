use Rattle.qh_slots.proofs.StandLemmas.{attaches, attaches1}
use Rattle.qh_slots.proofs.laws.attaches.Goals as goal

pub returns-clause-format_2 : goal.returns-clause-format_2
returns-clause-format_2 c = attaches

pub returns-clause-format_1 : goal.returns-clause-format_1
returns-clause-format_1 c = attaches1
