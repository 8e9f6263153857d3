use Rattle.std.proofs.Common.{◌≡◌, true, false, []}
use Rattle.std.specs.Prelude.{IsSomeAnd}
use Rattle.std.specs.Arc.{arc_value}
use Rattle.qh_disk.specs.Disk.{Face, Reads, IsImage}
use Rattle.qh_disk.specs.Moments.{EachImage}
use Rattle.qh_migrate.specs.Opening.{HandsBack, OpenMayFail, Opens, keeping}
use Rattle.qh_migrate.proofs.ResultLemmas.{ok_map, err_map}
use Rattle.qh_migrate.proofs.OptionLemmas.{and_map}
use Rattle.qh_migrate.proofs.FreshLemmas.{wipe_keeps, wiped_stops}
use Rattle.qh_migrate.proofs.HandLemmas.{wiped_opens, wiped_back}
use Rattle.qh_migrate.proofs.opening.open_fresh.Goals as goal

-- what an empty disk tells
told_empty : (d : Face) → Reads d (IsImage d) → EachImage d (λ f. f ≡ []) → Reads d (λ f. f ≡ [])
told_empty d current empty f told = empty f (current f told)

pub returns-in_default-clause-back : goal.returns-in_default-clause-back
returns-in_default-clause-back g c = record {
  same = c.wipe.ensures.same;
  keeps = wipe_keeps c.args.taking (arc_value c.args.job.now) (g.F.Disk.face c.args.old.now) (g.D.Disk.face c.args.disk)
      (g.D.Disk.face c.wipe.new.disk) c.wipe.ensures.wipes;
}

pub returns-clause-opened : goal.returns-clause-opened
returns-clause-opened g c = ok_map c.open_kept.result
    (λ k. IsSomeAnd k.disk (Opens g.D.Disk.face g.D.Disk.loans (keeping false c.args.taking) (arc_value c.args.job.now)
    (g.F.Disk.face c.args.old.now) c.wipe.new.disk k.table))
    (λ k. IsSomeAnd k.disk (Opens g.D.Disk.face g.D.Disk.loans (keeping true c.args.taking) (arc_value c.args.job.now)
    (g.F.Disk.face c.args.old.now) c.args.disk k.table))
    (λ k opened. and_map k.disk
    (Opens g.D.Disk.face g.D.Disk.loans (keeping false c.args.taking) (arc_value c.args.job.now) (g.F.Disk.face c.args.old.now) c.wipe.new.disk k.table)
    (Opens g.D.Disk.face g.D.Disk.loans (keeping true c.args.taking) (arc_value c.args.job.now) (g.F.Disk.face c.args.old.now) c.args.disk k.table)
    (wiped_opens g.D.Disk.face g.D.Disk.loans c.args.taking (arc_value c.args.job.now)
    (g.F.Disk.face c.args.old.now) c.open_kept.ensures.valid c.args.disk c.wipe.new.disk c.wipe.ensures.same c.wipe.ensures.wipes c.in-Ok.ensures.empty
    (told_empty (g.D.Disk.face c.wipe.new.disk) (g.met.D.Disk.current c.wipe.new.disk) c.in-Ok.ensures.empty) k.table) opened) c.open_kept.ensures.opened

pub returns-clause-back : goal.returns-clause-back
returns-clause-back g c = err_map c.open_kept.result
    (λ u. HandsBack g.D.Disk.face g.D.Disk.loans (keeping false c.args.taking) (arc_value c.args.job.now) (g.F.Disk.face c.args.old.now) c.wipe.new.disk u.disk)
    (λ u. HandsBack g.D.Disk.face g.D.Disk.loans (keeping true c.args.taking) (arc_value c.args.job.now) (g.F.Disk.face c.args.old.now) c.args.disk u.disk)
    (λ u. wiped_back g.D.Disk.face g.D.Disk.loans c.args.taking (arc_value c.args.job.now)
    (g.F.Disk.face c.args.old.now) c.open_kept.ensures.valid c.args.disk c.wipe.new.disk c.wipe.ensures.same c.wipe.ensures.wipes c.in-Ok.ensures.empty
    (told_empty (g.D.Disk.face c.wipe.new.disk) (g.met.D.Disk.current c.wipe.new.disk) c.in-Ok.ensures.empty) u.disk) c.open_kept.ensures.back

pub returns-clause-fault : goal.returns-clause-fault
returns-clause-fault g c = err_map c.open_kept.result
    (λ u. OpenMayFail (keeping false c.args.taking) (arc_value c.args.job.now) u.fault (g.F.Disk.face c.args.old.now) (g.F.Disk.face c.open_kept.new.old)
    (g.D.Disk.face c.wipe.new.disk) (g.D.Disk.face u.disk))
    (λ u. OpenMayFail (keeping true c.args.taking) (arc_value c.args.job.now) u.fault (g.F.Disk.face c.args.old.now) (g.F.Disk.face c.open_kept.new.old)
    (g.D.Disk.face c.args.disk) (g.D.Disk.face u.disk))
    (λ u. wiped_stops c.args.taking (arc_value c.args.job.now) c.open_kept.ensures.valid (g.F.Disk.face c.args.old.now) (g.D.Disk.face c.args.disk)
    (g.D.Disk.face c.wipe.new.disk) (g.D.Disk.face u.disk) c.wipe.ensures.wipes c.in-Ok.ensures.empty
    (told_empty (g.D.Disk.face c.wipe.new.disk) (g.met.D.Disk.current c.wipe.new.disk) c.in-Ok.ensures.empty) (g.F.Disk.face c.args.old.now)
    (g.F.Disk.face c.open_kept.new.old) u.fault) c.open_kept.ensures.fault
