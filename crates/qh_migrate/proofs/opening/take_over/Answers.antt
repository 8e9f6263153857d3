use Rattle.std.proofs.Common.{◌≡◌, true, false, [], subst, sym, ◌∙◌}
use Rattle.std.specs.Arc.{arc_value}
use Rattle.qh_plan.specs.Jobs.{Job, IsJob}
use Rattle.qh_disk.specs.Disk.{Face, IsImage, IsSafe, Reads}
use Rattle.qh_disk.specs.Looks.{Looks}
use Rattle.qh_disk.proofs.Moments.{safe_each}
use Rattle.qh_disk.proofs.Looking.{looks_reads}
use Rattle.qh_slots.specs.Stands.{Slots, Stands, Stands1}
use Rattle.qh_journal.specs.Calls.{Attaches}
use Rattle.qh_migrate.specs.Moving.{Leaves}
use Rattle.qh_migrate.specs.declared.open_fault.OpenFault.{OpenFault}
use Rattle.qh_migrate.specs.Opening.{OpenMayFail, Opens, keeping}
use Rattle.qh_migrate.proofs.OptionLemmas.{and_map}
use Rattle.qh_migrate.proofs.FillLemmas.{Fills, fills_keeps, leaves_fills, leaves_looks, moved_opened, stood_accepted}
use Rattle.qh_migrate.proofs.FaultLemmas.{migrate_refused, migrate_stops, taken_stops}
use Rattle.qh_migrate.proofs.opening.take_over.Goals as goal

pub migrate-requires : goal.migrate-requires
migrate-requires g c = safe_each (λ f. f ≡ []) (g.D.Disk.face c.args.disk) c.requires.safe c.requires.empty

pub returns-in-Err-clause-back : goal.returns-in-Err-clause-back
returns-in-Err-clause-back g c = record {
  same = c.migrate.ensures.same;
  keeps = fills_keeps true (arc_value c.args.job.now) (g.F.Disk.face c.args.old.now) (g.D.Disk.face c.args.disk)
      (g.D.Disk.face c.migrate.new.new) c.requires.empty
      (leaves_fills (arc_value c.args.job.now) c.requires.valid (g.F.Disk.face c.args.old.now) (g.D.Disk.face c.args.disk) (g.D.Disk.face c.migrate.new.new)
      (g.met.F.Disk.current c.args.old.now) c.requires.safe c.requires.empty c.migrate.ensures.leaves
      (migrate_refused g.F.Disk.face g.D.Disk.face
      (arc_value c.args.job.now) c.requires.valid c.args.old.now c.migrate.new.old c.args.disk c.migrate.new.new c.in-Err.fault c.in-Err.ensures.fault)) c.requires.valid;
}

pub returns-in-Err-clause-fault : goal.returns-in-Err-clause-fault
returns-in-Err-clause-fault g c =
    subst (λ (stop : OpenFault). OpenMayFail (keeping false true) (arc_value c.args.job.now) stop (g.F.Disk.face c.args.old.now)
    (g.F.Disk.face c.migrate.new.old) (g.D.Disk.face c.args.disk) (g.D.Disk.face c.migrate.new.new)) (sym c.migrate_fault.ensures)
    (migrate_stops g.F.Disk.face g.D.Disk.face
    (arc_value c.args.job.now) c.args.old.now c.migrate.new.old c.args.disk c.migrate.new.new c.in-Err.fault c.requires.empty c.in-Err.ensures.fault)

-- what a migration that ended well and the look behind it do
moved_fills : (j : Job) → IsJob j → (was old mid new : Face) (slots : Slots) → Reads was (IsImage was) → IsSafe old → Reads old (λ f. f ≡ [])
    → Leaves j was old mid → Looks mid new → Reads was (Stands1 j slots) → Fills true j was old new
moved_fills j is was old mid new slots current safe empty leaves looks stood =
    leaves_fills j is was old new current safe empty (leaves_looks j was old mid new leaves looks)
    (λ r why. absurd (stood_accepted j is true was old slots stood r why))

pub returns-in-Ok-clause-opened : goal.returns-in-Ok-clause-opened
returns-in-Ok-clause-opened g c = and_map c.in-Ok.journal.disk
    (λ e. Attaches g.D.Disk.face g.D.Disk.loans c.migrate.new.new e × IsSafe (g.D.Disk.face e) × Reads (g.D.Disk.face e)
    (Stands c.in-Ok.journal.job c.in-Ok.journal.table))
    (Opens g.D.Disk.face g.D.Disk.loans (keeping false true) (arc_value c.args.job.now) (g.F.Disk.face c.args.old.now) c.args.disk c.in-Ok.journal.table)
    (λ e p. record {
      same = p.0.same ∙ c.migrate.ensures.same;
      opened = moved_opened (arc_value c.args.job.now) c.requires.valid (g.F.Disk.face c.args.old.now) (g.D.Disk.face c.args.disk)
          (g.D.Disk.face e) c.in-Ok.journal.table c.in_default.ensures.moved.slots c.requires.empty
          (moved_fills (arc_value c.args.job.now) c.requires.valid (g.F.Disk.face c.args.old.now) (g.D.Disk.face c.args.disk)
          (g.D.Disk.face c.migrate.new.new) (g.D.Disk.face e) c.in_default.ensures.moved.slots (g.met.F.Disk.current c.args.old.now)
          c.requires.safe c.requires.empty c.migrate.ensures.leaves p.0.looks c.in_default.ensures.moved.stood)
          c.in_default.ensures.moved.stood (looks_reads (Stands (arc_value c.args.job.now) c.in_default.ensures.moved.slots)
          (g.D.Disk.face c.migrate.new.new) (g.D.Disk.face e) p.0.looks c.in_default.ensures.moved.reads) p.1
          (subst (λ (j : Job). Reads (g.D.Disk.face e) (Stands j c.in-Ok.journal.table)) c.in-Ok.ensures.job.0 p.2);
    }) c.in-Ok.ensures.disk

pub returns-in-Err-attach-clause-back : goal.returns-in-Err-attach-clause-back
returns-in-Err-attach-clause-back g c = record {
  same = c.in-Err-attach.ensures.back.same ∙ c.migrate.ensures.same;
  keeps = fills_keeps true (arc_value c.args.job.now) (g.F.Disk.face c.args.old.now) (g.D.Disk.face c.args.disk)
      (g.D.Disk.face c.in-Err-attach.field-0.disk) c.requires.empty
      (moved_fills (arc_value c.args.job.now) c.requires.valid (g.F.Disk.face c.args.old.now) (g.D.Disk.face c.args.disk) (g.D.Disk.face c.migrate.new.new)
      (g.D.Disk.face c.in-Err-attach.field-0.disk) c.in_default.ensures.moved.slots (g.met.F.Disk.current c.args.old.now)
      c.requires.safe c.requires.empty c.migrate.ensures.leaves c.in-Err-attach.ensures.back.looks c.in_default.ensures.moved.stood) c.requires.valid;
}

pub returns-in-Err-attach-clause-fault : goal.returns-in-Err-attach-clause-fault
returns-in-Err-attach-clause-fault g c =
    subst (λ (stop : OpenFault). OpenMayFail (keeping false true) (arc_value c.args.job.now) stop (g.F.Disk.face c.args.old.now)
    (g.F.Disk.face c.migrate.new.old) (g.D.Disk.face c.args.disk) (g.D.Disk.face c.in-Err-attach.field-0.disk)) (sym c.attach_fault.ensures)
    (taken_stops (arc_value c.args.job.now) c.requires.valid (g.F.Disk.face c.args.old.now) (g.F.Disk.face c.migrate.new.old) (g.D.Disk.face c.args.disk)
    (g.D.Disk.face c.migrate.new.new) (g.D.Disk.face c.in-Err-attach.field-0.disk)
    c.in_default.ensures.moved.slots c.migrate.ensures.leaves.spares.runs c.in-Err-attach.ensures.back.looks c.in_default.ensures.moved.reads c.requires.safe
    c.migrate.ensures.leaves.spares.none c.in-Err-attach.field-0.fault c.in-Err-attach.ensures.fault)
