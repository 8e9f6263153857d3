use Rattle.std.proofs.Common.{◌<◌, ℕ, length}
use Rattle.qh_disk.specs.Disk.{IsSafe}
use Rattle.qh_disk.specs.Moments.{EachImage}
use Rattle.qh_disk.proofs.Moments.{safe_each}
use Rattle.qh_disk.proofs.Looking.{looks_reads}
use Rattle.qh_slots.specs.Stands.{Stands, Holds}
use Rattle.qh_parts.specs.Groups.{StandsPartly, filled, range_of, member_of}
use Rattle.qh_parts.proofs.PartLemmas.{on_ok, on_always, spares_on, spares_looks, made_on, made_looks, goes_on, goes_looks}
use Rattle.qh_parts.proofs.group.keep_gates.Goals as goal

pub returns-clause-stored : goal.returns-clause-stored
returns-clause-stored g c =
    on_ok c.settle.result (IsSafe (g.D.Disk.face c.settle.new.disk)) ((k : ℕ) → k < length c.args.group.now → EachImage (g.D.Disk.face c.settle.new.disk) (Holds c.args.job.now (range_of c.args.group.now k) (member_of c.args.group.now k)))
    (λ safe k low. safe_each (Holds c.args.job.now (range_of c.args.group.now k) (member_of c.args.group.now k)) (g.D.Disk.face c.settle.new.disk) safe (looks_reads (Holds c.args.job.now (range_of c.args.group.now k) (member_of c.args.group.now k)) _ _ c.settle.ensures.looks (c.in_ok-open_gates.ensures.stored k low))) c.settle.ensures.safe

pub returns-clause-spares : goal.returns-clause-spares
returns-clause-spares g c = spares_on _ _ _ _ c.open_gates.ensures.spares (spares_looks _ _ _ c.settle.ensures.looks)

pub returns-clause-made : goal.returns-clause-made
returns-clause-made g c values = made_on _ _ _ _ c.open_gates.ensures.spares (c.open_gates.ensures.made values) (spares_looks _ _ _ c.settle.ensures.looks) (made_looks _ _ _ c.settle.ensures.looks)

pub returns-clause-filled : goal.returns-clause-filled
returns-clause-filled g c = on_always c.settle.result _ (λ s reads. looks_reads (Stands c.args.job.now (filled s c.args.group.now)) _ _ c.settle.ensures.looks (c.in_ok-open_gates.ensures.filled s reads))

pub returns-clause-partly : goal.returns-clause-partly
returns-clause-partly g c s reads = looks_reads (StandsPartly c.args.job.now s c.args.group.now) _ _ c.settle.ensures.looks (c.open_gates.ensures.partly s reads)

pub returns-clause-goes_on : goal.returns-clause-goes_on
returns-clause-goes_on g c values s = goes_on _ s _ _ _ c.open_gates.ensures.spares (c.open_gates.ensures.goes_on values s)
    (spares_looks _ _ _ c.settle.ensures.looks) (goes_looks _ s _ _ c.settle.ensures.looks)
