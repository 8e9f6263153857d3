use Rattle.qh_parts.proofs.LayLemmas.{closed_on, zeros_unbegun}
use Rattle.qh_parts.proofs.laying.lay.Goals as goal

pub returns-in_err-lengthen-clause-unbegun : goal.returns-in_err-lengthen-clause-unbegun
returns-in_err-lengthen-clause-unbegun g c = zeros_unbegun (g.D.Disk.face c.lengthen.new.disk) c.lengthen.ensures.zeros

pub returns-clause-closed : goal.returns-clause-closed
returns-clause-closed g c = closed_on _ _ _ c.lengthen.ensures.closed c.write_rest.ensures.closed
