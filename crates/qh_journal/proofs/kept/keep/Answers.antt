use Rattle.std.proofs.Common.{subst}
use Rattle.qh_plan.specs.Jobs.{Job}
use Rattle.qh_disk.specs.Disk.{Reads}
use Rattle.qh_slots.specs.Stands.{Stands}
use Rattle.qh_journal.proofs.kept.keep.Goals as goal

pub returns-clause-slots : goal.returns-clause-slots
returns-clause-slots g c = subst (λ (j : Job). Reads (g.D.Disk.face c.examine.new.disk) (Stands j c.in-Ok.table.items)) c.deref-3.ensures c.in-Ok.ensures.slots
