use Rattle.qh_parts.proofs.LayLemmas.{closed_on, closed_looks}
use Rattle.qh_parts.proofs.laying.lengthen.Goals as goal

pub returns-clause-closed : goal.returns-clause-closed
returns-clause-closed g c = closed_on _ _ _ c.set_length.ensures.closed (closed_looks _ _ c.settle.ensures.looks)
