use Rattle.qh_parts.proofs.WipeLemmas.{wipes_on, wipes_looks}
use Rattle.qh_parts.proofs.wiping.close.Goals as goal

pub returns-clause-wipes : goal.returns-clause-wipes
returns-clause-wipes g c = wipes_on _ _ _ c.write_closed.ensures.wipes (wipes_looks _ _ c.settle.ensures.looks)
