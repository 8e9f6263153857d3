use Rattle.qh_parts.proofs.WipeLemmas.{wipes_on, wipes_looks}
use Rattle.qh_parts.proofs.wiping.clear.Goals as goal

pub returns-clause-wipes : goal.returns-clause-wipes
returns-clause-wipes g c = wipes_on _ _ _ c.cut.ensures.wipes (wipes_looks _ _ c.settle.ensures.looks)
