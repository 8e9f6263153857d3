use Rattle.std.proofs.Common.{set, Some}
use Rattle.qh_disk.proofs.Looking.{looks_reads}
use Rattle.qh_slots.specs.Stands.{Stands}
use Rattle.qh_parts.proofs.PartLemmas.{on_always, spares_on, spares_looks, made_on, made_looks, goes_on, goes_looks}
use Rattle.qh_parts.proofs.storing.open_gate.Goals as goal

pub returns-clause-opened : goal.returns-clause-opened
returns-clause-opened g c = on_always c.settle.result _ (λ s reads. looks_reads (Stands c.args.job.now (set s c.args.range (Some c.args.verdict.now))) _ _ c.settle.ensures.looks (c.in_ok-write_gate.ensures.opened s reads))

pub returns-clause-spares : goal.returns-clause-spares
returns-clause-spares g c = spares_on _ _ _ _ c.write_gate.ensures.spares (spares_looks _ _ _ c.settle.ensures.looks)

pub returns-clause-made : goal.returns-clause-made
returns-clause-made g c is_true = made_on _ _ _ _ c.write_gate.ensures.spares (c.write_gate.ensures.made is_true) (spares_looks _ _ _ c.settle.ensures.looks) (made_looks _ _ _ c.settle.ensures.looks)

pub returns-clause-goes_on : goal.returns-clause-goes_on
returns-clause-goes_on g c is_true s = goes_on _ s _ _ _ c.write_gate.ensures.spares (c.write_gate.ensures.goes_on is_true s)
    (spares_looks _ _ _ c.settle.ensures.looks) (goes_looks _ s _ _ c.settle.ensures.looks)
