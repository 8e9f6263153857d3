use Rattle.std.proofs.Common.{[], ◌∷◌}
use Rattle.qh_disk.specs.Disk.{Reads, Becomes, overwritten}
use Rattle.qh_disk.proofs.Moments.{runs_call}
use Rattle.qh_slots.specs.Layout.{mark}
use Rattle.qh_slots.specs.Stands.{Slots, Stands}
use Rattle.qh_parts.specs.Laying.{IsLaid}
use Rattle.qh_parts.proofs.PartLemmas.{on_ok}
use Rattle.qh_parts.proofs.LayLemmas.{mark_creates, mark_reads, mark_stands}
use Rattle.qh_parts.proofs.laying.write_mark.Goals as goal

pub returns-clause-stands : goal.returns-clause-stands
returns-clause-stands g c =
    on_ok c.write_at.result (Becomes (overwritten 0 (mark ∷ [])) (g.D.Disk.face c.args.disk.now) (g.D.Disk.face c.write_at.new.self))
    ((s : Slots) → Reads (g.D.Disk.face c.args.disk.now) (IsLaid c.args.job.now s) → Reads (g.D.Disk.face c.write_at.new.self) (Stands c.args.job.now s))
    (λ becomes s reads. mark_stands c.args.job.now s (g.D.Disk.face c.args.disk.now) (g.D.Disk.face c.write_at.new.self) becomes reads) c.write_at.ensures.written

pub returns-clause-fresh : goal.returns-clause-fresh
returns-clause-fresh g c s = mark_reads c.args.job.now s (g.D.Disk.face c.args.disk.now) (g.D.Disk.face c.write_at.new.self) c.write_at.ensures.torn

pub returns-clause-creates : goal.returns-clause-creates
returns-clause-creates g c s = mark_creates c.args.job.now s c.write_at.result (g.D.Disk.face c.args.disk.now) (g.D.Disk.face c.write_at.new.self) c.write_at.ensures.call c.write_at.ensures.torn c.requires.safe

pub returns-clause-runs : goal.returns-clause-runs
returns-clause-runs g c = runs_call c.write_at.result (g.D.Disk.face c.args.disk.now) (g.D.Disk.face c.write_at.new.self) c.write_at.ensures.call
