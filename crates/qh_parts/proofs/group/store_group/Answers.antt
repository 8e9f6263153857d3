use Rattle.qh_disk.specs.Disk.{Reads}
use Rattle.qh_slots.specs.Stands.{Slots, Stands}
use Rattle.qh_parts.specs.Groups.{filled}
use Rattle.qh_parts.proofs.GroupLemmas.{partly_none}
use Rattle.qh_parts.proofs.PartLemmas.{on_ok, spares_on, made_on, goes_on}
use Rattle.qh_parts.proofs.group.store_group.Goals as goal

pub returns-clause-spares : goal.returns-clause-spares
returns-clause-spares g c = spares_on _ _ _ _ c.keep_bodies.ensures.spares c.keep_gates.ensures.spares

pub returns-clause-made : goal.returns-clause-made
returns-clause-made g c values = made_on _ _ _ _ c.keep_bodies.ensures.spares c.keep_bodies.ensures.made c.keep_gates.ensures.spares (c.keep_gates.ensures.made values)

pub returns-clause-filled : goal.returns-clause-filled
returns-clause-filled g c =
    on_ok c.keep_gates.result ((s : Slots) → Reads (g.D.Disk.face c.keep_bodies.new.disk) (Stands c.args.job.now s) → Reads (g.D.Disk.face c.keep_gates.new.disk) (Stands c.args.job.now (filled s c.args.group.now)))
    ((s : Slots) → Reads (g.D.Disk.face c.args.disk.now) (Stands c.args.job.now s) → Reads (g.D.Disk.face c.keep_gates.new.disk) (Stands c.args.job.now (filled s c.args.group.now)))
    (λ full s reads. full s (c.keep_bodies.ensures.kept s reads)) c.keep_gates.ensures.filled

pub returns-clause-partly : goal.returns-clause-partly
returns-clause-partly g c s reads = c.keep_gates.ensures.partly s (c.keep_bodies.ensures.kept s reads)

pub returns-in_err-keep_bodies-clause-partly : goal.returns-in_err-keep_bodies-clause-partly
returns-in_err-keep_bodies-clause-partly g c s reads f told = partly_none c.args.job.now s c.args.group.now f (c.keep_bodies.ensures.kept s reads f told)

pub returns-clause-goes_on : goal.returns-clause-goes_on
returns-clause-goes_on g c values s = goes_on _ s _ _ _ c.keep_bodies.ensures.spares (c.keep_bodies.ensures.goes_on s) c.keep_gates.ensures.spares
    (c.keep_gates.ensures.goes_on values s)
