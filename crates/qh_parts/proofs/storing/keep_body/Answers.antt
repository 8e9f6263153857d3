use Rattle.qh_disk.proofs.Looking.{looks_reads}
use Rattle.qh_slots.specs.Stands.{Stands}
use Rattle.qh_parts.proofs.PartLemmas.{spares_on, spares_looks, made_on, made_looks, goes_on, goes_looks}
use Rattle.qh_parts.proofs.storing.keep_body.Goals as goal

pub returns-clause-kept : goal.returns-clause-kept
returns-clause-kept g c s reads = looks_reads (Stands c.args.job.now s) _ _ c.settle.ensures.looks (c.write_body.ensures.kept s reads)

pub returns-clause-spares : goal.returns-clause-spares
returns-clause-spares g c = spares_on _ _ _ _ c.write_body.ensures.spares (spares_looks _ _ _ c.settle.ensures.looks)

pub returns-clause-made : goal.returns-clause-made
returns-clause-made g c = made_on _ _ _ _ c.write_body.ensures.spares c.write_body.ensures.made (spares_looks _ _ _ c.settle.ensures.looks) (made_looks _ _ _ c.settle.ensures.looks)

pub returns-clause-goes_on : goal.returns-clause-goes_on
returns-clause-goes_on g c s = goes_on _ s _ _ _ c.write_body.ensures.spares (c.write_body.ensures.goes_on s) (spares_looks _ _ _ c.settle.ensures.looks)
    (goes_looks _ s _ _ c.settle.ensures.looks)
