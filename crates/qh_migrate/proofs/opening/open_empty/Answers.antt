use Rattle.std.proofs.Common.{◌≡◌, Bool, false, [], subst, sym}
use Rattle.std.specs.Arc.{arc_value}
use Rattle.std.specs.Option.{IsSomeAnd}
use Rattle.qh_plan.specs.Jobs.{Job}
use Rattle.qh_disk.specs.Disk.{IsSafe, Reads}
use Rattle.qh_disk.proofs.Moments.{safe_each}
use Rattle.qh_slots.specs.Stands.{Stands}
use Rattle.qh_journal.specs.Calls.{IsCreated}
use Rattle.qh_migrate.specs.Opening.{HandsBack, Opens, keeping}
use Rattle.qh_migrate.proofs.OptionLemmas.{and_map}
use Rattle.qh_migrate.proofs.FillLemmas.{created_fills, created_opened, fills_keeps}
use Rattle.qh_migrate.proofs.opening.open_empty.Goals as goal

pub returns-in-Ok-clause-opened : goal.returns-in-Ok-clause-opened
returns-in-Ok-clause-opened g c =
    subst (λ (taking : Bool). IsSomeAnd c.in-Ok.journal.disk (Opens g.D.Disk.face g.D.Disk.loans (keeping false taking) (arc_value c.args.job.now)
    (g.F.Disk.face c.args.old.now) c.args.disk c.in-Ok.journal.table)) (sym c.if-taking.false)
    (and_map c.in-Ok.journal.disk
    (λ e. IsCreated g.D.Disk.face g.D.Disk.loans (arc_value c.args.job.now) c.args.disk e × IsSafe (g.D.Disk.face e) × Reads (g.D.Disk.face e)
    (Stands c.in-Ok.journal.job c.in-Ok.journal.table))
    (Opens g.D.Disk.face g.D.Disk.loans (keeping false false) (arc_value c.args.job.now) (g.F.Disk.face c.args.old.now) c.args.disk c.in-Ok.journal.table)
    (λ e p. record {
      same = p.0.same;
      opened = created_opened (arc_value c.args.job.now) c.requires.valid (g.F.Disk.face c.args.old.now) (g.D.Disk.face c.args.disk)
          (g.D.Disk.face e) c.in-Ok.journal.table c.requires.empty
          (created_fills g.D.Disk.face g.D.Disk.loans (arc_value c.args.job.now) (g.F.Disk.face c.args.old.now) c.args.disk e
          (safe_each (λ f. f ≡ []) (g.D.Disk.face c.args.disk) c.requires.safe c.requires.empty) p.0)
          c.in-Ok.ensures.job.2 p.1 (subst (λ (j : Job). Reads (g.D.Disk.face e) (Stands j c.in-Ok.journal.table)) c.in-Ok.ensures.job.0 p.2);
    }) c.in-Ok.ensures.disk)

pub returns-in-Err-clause-back : goal.returns-in-Err-clause-back
returns-in-Err-clause-back g c =
    subst (λ (taking : Bool). HandsBack g.D.Disk.face g.D.Disk.loans (keeping false taking) (arc_value c.args.job.now)
    (g.F.Disk.face c.args.old.now) c.args.disk c.in-Err.field-0.disk) (sym c.if-taking.false)
    (record {
      same = c.in-Err.ensures.back.same;
      keeps = fills_keeps false (arc_value c.args.job.now) (g.F.Disk.face c.args.old.now) (g.D.Disk.face c.args.disk)
          (g.D.Disk.face c.in-Err.field-0.disk) c.requires.empty
          (created_fills g.D.Disk.face g.D.Disk.loans (arc_value c.args.job.now) (g.F.Disk.face c.args.old.now) c.args.disk c.in-Err.field-0.disk
          (safe_each (λ f. f ≡ []) (g.D.Disk.face c.args.disk) c.requires.safe c.requires.empty) c.in-Err.ensures.back)
          c.requires.valid;
    })
