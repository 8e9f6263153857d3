use Rattle.std.proofs.Common.{Some, Option, subst, sym}
use Rattle.qh_disk.specs.Disk.{Reads}
use Rattle.qh_slots.specs.Stands.{Stands}
use Rattle.qh_parts.specs.Groups.{filled}
use Rattle.qh_parts.proofs.PartLemmas.{on_ok}
use Rattle.qh_journal.specs.Calls.{Went}
use Rattle.qh_journal.proofs.writing.write_group.Goals as goal

pub returns-in-Some-clause-filled : goal.returns-in-Some-clause-filled
returns-in-Some-clause-filled g c =
    on_ok c.store_group.result _ _
    (λ full s. subst (λ (o : Option _). Went (λ d e. Reads (g.D.Disk.face d) (Stands c.args.job.now s) → Reads (g.D.Disk.face e) (Stands c.args.job.now (filled s c.args.group.now))) o (Some c.store_group.new.disk)) (sym c.in-Some.is) (full s))
    c.store_group.ensures.filled
