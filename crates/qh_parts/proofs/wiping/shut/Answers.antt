use Rattle.qh_parts.proofs.WipeLemmas.{wipes_on, wipes_looks}
use Rattle.qh_parts.proofs.wiping.shut.Goals as goal

pub returns-in_err-look-clause-wipes : goal.returns-in_err-look-clause-wipes
returns-in_err-look-clause-wipes g c = wipes_looks _ _ c.look.ensures.looks

pub returns-then-branch-clause-wipes : goal.returns-then-branch-clause-wipes
returns-then-branch-clause-wipes g c = wipes_on _ _ _ (wipes_looks _ _ c.look.ensures.looks) c.close.ensures.wipes

pub returns-else-branch-clause-wipes : goal.returns-else-branch-clause-wipes
returns-else-branch-clause-wipes g c = wipes_looks _ _ c.look.ensures.looks
