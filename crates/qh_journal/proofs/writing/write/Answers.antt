use Rattle.std.proofs.Common.{set, Some, Option, subst, sym}
use Rattle.qh_disk.specs.Disk.{Reads}
use Rattle.qh_slots.specs.Stands.{Stands}
use Rattle.qh_journal.specs.Calls.{Went}
use Rattle.qh_parts.proofs.PartLemmas.{on_ok}
use Rattle.qh_journal.proofs.writing.write.Goals as goal

pub returns-in-Some-clause-opened : goal.returns-in-Some-clause-opened
returns-in-Some-clause-opened g c =
    on_ok c.store.result _ _
    (λ opened s. subst (λ (o : Option _). Went (λ d e. Reads (g.D.Disk.face d) (Stands c.args.job.now s) → Reads (g.D.Disk.face e) (Stands c.args.job.now (set s c.args.range (Some c.args.verdict.now)))) o (Some c.store.new.disk)) (sym c.in-Some.is) (opened s))
    c.store.ensures.opened
