use Rattle.qh_disk.proofs.Looking.{looks_on}
use Rattle.qh_parts.proofs.job.read_job.Goals as goal

pub returns-clause-looks : goal.returns-clause-looks
returns-clause-looks g c = looks_on _ _ _ c.read_start.ensures.looks c.read_named.ensures.looks
