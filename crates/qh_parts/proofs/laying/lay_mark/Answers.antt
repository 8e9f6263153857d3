use Rattle.qh_disk.proofs.Looking.{looks_reads}
use Rattle.qh_disk.proofs.Moments.{runs_on}
use Rattle.qh_slots.specs.Stands.{Stands}
use Rattle.qh_parts.specs.Laying.{IsFresh}
use Rattle.qh_parts.proofs.PartLemmas.{on_always}
use Rattle.qh_parts.proofs.LayLemmas.{creates_looks}
use Rattle.qh_parts.proofs.laying.lay_mark.Goals as goal

pub returns-clause-stands : goal.returns-clause-stands
returns-clause-stands g c = on_always c.settle.result _ (λ s reads. looks_reads (Stands c.args.job.now s) _ _ c.settle.ensures.looks (c.in_ok-write_mark.ensures.stands s reads))

pub returns-clause-fresh : goal.returns-clause-fresh
returns-clause-fresh g c s reads = looks_reads (IsFresh c.args.job.now s) _ _ c.settle.ensures.looks (c.write_mark.ensures.fresh s reads)

pub returns-clause-creates : goal.returns-clause-creates
returns-clause-creates g c s reads = creates_looks _ _ _ _ _ (c.write_mark.ensures.creates s reads) c.settle.ensures.looks

pub returns-clause-runs : goal.returns-clause-runs
returns-clause-runs g c = runs_on _ _ _ c.write_mark.ensures.runs c.settle.ensures.looks.runs
