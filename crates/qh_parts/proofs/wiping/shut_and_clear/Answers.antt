use Rattle.qh_parts.proofs.WipeLemmas.{wipes_on}
use Rattle.qh_parts.proofs.wiping.shut_and_clear.Goals as goal

pub returns-clause-wipes : goal.returns-clause-wipes
returns-clause-wipes g c = wipes_on _ _ _ c.shut.ensures.wipes c.clear.ensures.wipes
