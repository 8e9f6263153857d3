use Rattle.std.proofs.Common.{set, Some}
use Rattle.qh_slots.specs.Stands.{Slots, Stands}
use Rattle.qh_disk.specs.Disk.{Reads}
use Rattle.qh_parts.proofs.PartLemmas.{on_ok, spares_on, goes_on}
use Rattle.qh_parts.proofs.storing.store.Goals as goal

pub returns-clause-opened : goal.returns-clause-opened
returns-clause-opened g c =
    on_ok c.open_gate.result ((s : Slots) → Reads (g.D.Disk.face c.keep_body.new.disk) (Stands c.args.job.now s) → Reads (g.D.Disk.face c.open_gate.new.disk) (Stands c.args.job.now (set s c.args.range (Some c.args.verdict.now))))
    ((s : Slots) → Reads (g.D.Disk.face c.args.disk.now) (Stands c.args.job.now s) → Reads (g.D.Disk.face c.open_gate.new.disk) (Stands c.args.job.now (set s c.args.range (Some c.args.verdict.now))))
    (λ opened s reads. opened s (c.keep_body.ensures.kept s reads)) c.open_gate.ensures.opened

pub returns-clause-either : goal.returns-clause-either
returns-clause-either g c s reads = c.open_gate.ensures.either s (c.keep_body.ensures.kept s reads)

pub returns-clause-spares : goal.returns-clause-spares
returns-clause-spares g c = spares_on _ _ _ _ c.keep_body.ensures.spares c.open_gate.ensures.spares

pub returns-clause-goes_on : goal.returns-clause-goes_on
returns-clause-goes_on g c is_true s = goes_on _ s _ _ _ c.keep_body.ensures.spares (c.keep_body.ensures.goes_on s) c.open_gate.ensures.spares
    (c.open_gate.ensures.goes_on is_true s)
