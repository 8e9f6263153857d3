use Rattle.std.proofs.Common.{◌<◌, ℕ, length}
use Rattle.qh_disk.specs.Disk.{IsSafe}
use Rattle.qh_disk.specs.Moments.{EachImage}
use Rattle.qh_disk.proofs.Moments.{safe_each}
use Rattle.qh_disk.proofs.Looking.{looks_reads}
use Rattle.qh_slots.specs.Stands.{Stands, Behind}
use Rattle.qh_parts.specs.Groups.{range_of, member_of}
use Rattle.qh_parts.proofs.PartLemmas.{on_ok, spares_on, spares_looks, made_on, made_looks, goes_on, goes_looks}
use Rattle.qh_parts.proofs.group.keep_bodies.Goals as goal

pub returns-clause-behind : goal.returns-clause-behind
returns-clause-behind g c =
    on_ok c.settle.result (IsSafe (g.D.Disk.face c.settle.new.disk)) ((k : ℕ) → k < length c.args.group.now → EachImage (g.D.Disk.face c.settle.new.disk) (Behind c.args.job.now (range_of c.args.group.now k) (member_of c.args.group.now k)))
    (λ safe k low. safe_each (Behind c.args.job.now (range_of c.args.group.now k) (member_of c.args.group.now k)) (g.D.Disk.face c.settle.new.disk) safe (looks_reads (Behind c.args.job.now (range_of c.args.group.now k) (member_of c.args.group.now k)) _ _ c.settle.ensures.looks (c.in_ok-write_bodies.ensures.behind k low))) c.settle.ensures.safe

pub returns-clause-spares : goal.returns-clause-spares
returns-clause-spares g c = spares_on _ _ _ _ c.write_bodies.ensures.spares (spares_looks _ _ _ c.settle.ensures.looks)

pub returns-clause-made : goal.returns-clause-made
returns-clause-made g c = made_on _ _ _ _ c.write_bodies.ensures.spares c.write_bodies.ensures.made (spares_looks _ _ _ c.settle.ensures.looks) (made_looks _ _ _ c.settle.ensures.looks)

pub returns-clause-kept : goal.returns-clause-kept
returns-clause-kept g c s reads = looks_reads (Stands c.args.job.now s) _ _ c.settle.ensures.looks (c.write_bodies.ensures.kept s reads)

pub returns-clause-goes_on : goal.returns-clause-goes_on
returns-clause-goes_on g c s = goes_on _ s _ _ _ c.write_bodies.ensures.spares (c.write_bodies.ensures.goes_on s) (spares_looks _ _ _ c.settle.ensures.looks)
    (goes_looks _ s _ _ c.settle.ensures.looks)
