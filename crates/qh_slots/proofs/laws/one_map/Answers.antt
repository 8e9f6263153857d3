use Rattle.qh_slots.proofs.StandLemmas.{one_map, one_map1}
use Rattle.qh_slots.proofs.laws.one_map.Goals as goal

pub returns-clause-format_2 : goal.returns-clause-format_2
returns-clause-format_2 c = one_map

pub returns-clause-format_1 : goal.returns-clause-format_1
returns-clause-format_1 c = one_map1
