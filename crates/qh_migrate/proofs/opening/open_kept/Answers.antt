use Rattle.std.proofs.Common.{◌≡◌, ◌≢◌, false, [], subst, sym, ◌∙◌}
use Rattle.std.specs.Prelude.{IsSomeAnd}
use Rattle.std.specs.Arc.{arc_value}
use Rattle.qh_plan.specs.Jobs.{Job}
use Rattle.qh_disk.specs.Disk.{Face, IsSafe, Reads}
use Rattle.qh_disk.specs.Looks.{Looks}
use Rattle.qh_slots.specs.Stands.{Stands}
use Rattle.qh_slots.specs.declared.fault.AttachFault.{AttachFault}
use Rattle.qh_slots.specs.declared.fault.AttachFault.TheVariants.{Empty}
use Rattle.qh_journal.specs.Calls.{Attaches, AttachMayFail, IsRefused}
use Rattle.qh_migrate.specs.declared.open_fault.OpenFault.{OpenFault}
use Rattle.qh_migrate.specs.Opening.{HandsBack, OpenMayFail, Opens, keeping}
use Rattle.qh_migrate.proofs.ResultLemmas.{ok_map, err_map, err_map2}
use Rattle.qh_migrate.proofs.OptionLemmas.{and_has, and_map}
use Rattle.qh_migrate.proofs.EmptyLemmas.{refused_empty}
use Rattle.qh_migrate.proofs.FaultLemmas.{attach_stops, looks_stops, read_only_same}
use Rattle.qh_migrate.proofs.HandLemmas.{attached_opens, attached_back, looked_opens, looked_back}
use Rattle.qh_migrate.proofs.opening.open_kept.Goals as goal

-- an attach that found an empty file
found_empty : (j : Job) (fault : AttachFault) (d e : Face) → fault ≡ Empty → AttachMayFail j fault d e → IsRefused j Empty e
found_empty j fault d e is may = subst (λ (why : AttachFault). AttachMayFail j why d e) is may

-- a disk that tells that it is not empty is not found empty
not_empty : (j : Job) (d e : Face) → Looks d e → IsRefused j Empty e → IsSomeAnd d.content (λ f. f ≢ []) → ⊥
not_empty j d e looks refused told = let has = and_has d.content (λ f. f ≢ []) told in has.holds
    (refused_empty j has.value (refused.first has.value (looks.content ∙ has.is)))

pub open_empty-requires-clause-safe : goal.open_empty-requires-clause-safe
open_empty-requires-clause-safe g c = (found_empty (arc_value c.args.job.now) c.in-Err.field-0.fault (g.D.Disk.face c.args.disk)
    (g.D.Disk.face c.in-Err.field-0.disk) c.in-Empty.is c.in-Err.ensures.fault).safe

pub open_empty-requires-clause-empty : goal.open_empty-requires-clause-empty
open_empty-requires-clause-empty g c f told =
    refused_empty (arc_value c.args.job.now) f ((found_empty (arc_value c.args.job.now) c.in-Err.field-0.fault (g.D.Disk.face c.args.disk)
    (g.D.Disk.face c.in-Err.field-0.disk) c.in-Empty.is c.in-Err.ensures.fault).first f told)

pub returns-in-Ok-clause-opened : goal.returns-in-Ok-clause-opened
returns-in-Ok-clause-opened g c = and_map c.in-Ok.journal.disk
    (λ e. Attaches g.D.Disk.face g.D.Disk.loans c.args.disk e × IsSafe (g.D.Disk.face e) × Reads (g.D.Disk.face e)
    (Stands c.in-Ok.journal.job c.in-Ok.journal.table))
    (Opens g.D.Disk.face g.D.Disk.loans (keeping false c.args.taking) (arc_value c.args.job.now)
    (g.F.Disk.face c.args.old.now) c.args.disk c.in-Ok.journal.table)
    (λ e p. attached_opens g.D.Disk.face g.D.Disk.loans c.args.taking (arc_value c.args.job.now)
    (g.F.Disk.face c.args.old.now) c.in-Ok.ensures.valid c.args.disk c.in-Ok.journal.table e p.0 p.1
    (subst (λ (j : Job). Reads (g.D.Disk.face e) (Stands j c.in-Ok.journal.table)) c.in-Ok.ensures.job.0 p.2)) c.in-Ok.ensures.disk

pub returns-in-Empty-clause-opened : goal.returns-in-Empty-clause-opened
returns-in-Empty-clause-opened g c = ok_map c.open_empty.result
    (λ k. IsSomeAnd k.disk (Opens g.D.Disk.face g.D.Disk.loans (keeping false c.args.taking) (arc_value c.args.job.now)
    (g.F.Disk.face c.args.old.now) c.in-Err.field-0.disk k.table))
    (λ k. IsSomeAnd k.disk (Opens g.D.Disk.face g.D.Disk.loans (keeping false c.args.taking) (arc_value c.args.job.now)
    (g.F.Disk.face c.args.old.now) c.args.disk k.table))
    (λ k opened. and_map k.disk
    (Opens g.D.Disk.face g.D.Disk.loans (keeping false c.args.taking) (arc_value c.args.job.now) (g.F.Disk.face c.args.old.now) c.in-Err.field-0.disk k.table)
    (Opens g.D.Disk.face g.D.Disk.loans (keeping false c.args.taking) (arc_value c.args.job.now) (g.F.Disk.face c.args.old.now) c.args.disk k.table)
    (looked_opens g.D.Disk.face g.D.Disk.loans c.args.taking (arc_value c.args.job.now)
    (g.F.Disk.face c.args.old.now) c.args.disk c.in-Err.field-0.disk c.in-Err.ensures.back k.table) opened) c.open_empty.ensures.opened

pub returns-in-Empty-clause-back : goal.returns-in-Empty-clause-back
returns-in-Empty-clause-back g c = err_map c.open_empty.result
    (λ u. HandsBack g.D.Disk.face g.D.Disk.loans (keeping false c.args.taking) (arc_value c.args.job.now)
    (g.F.Disk.face c.args.old.now) c.in-Err.field-0.disk u.disk)
    (λ u. HandsBack g.D.Disk.face g.D.Disk.loans (keeping false c.args.taking) (arc_value c.args.job.now) (g.F.Disk.face c.args.old.now) c.args.disk u.disk)
    (λ u. looked_back g.D.Disk.face g.D.Disk.loans c.args.taking (arc_value c.args.job.now)
    (g.F.Disk.face c.args.old.now) c.in-Err.ensures.valid c.args.disk c.in-Err.field-0.disk c.in-Err.ensures.back u.disk) c.open_empty.ensures.back

pub returns-in-Empty-clause-fault : goal.returns-in-Empty-clause-fault
returns-in-Empty-clause-fault g c = err_map2 c.open_empty.result
    (λ u. HandsBack g.D.Disk.face g.D.Disk.loans (keeping false c.args.taking) (arc_value c.args.job.now)
    (g.F.Disk.face c.args.old.now) c.in-Err.field-0.disk u.disk)
    (λ u. OpenMayFail (keeping false c.args.taking) (arc_value c.args.job.now) u.fault (g.F.Disk.face c.args.old.now) (g.F.Disk.face c.open_empty.new.old)
    (g.D.Disk.face c.in-Err.field-0.disk) (g.D.Disk.face u.disk))
    (λ u. OpenMayFail (keeping false c.args.taking) (arc_value c.args.job.now) u.fault (g.F.Disk.face c.args.old.now) (g.F.Disk.face c.open_empty.new.old)
    (g.D.Disk.face c.args.disk) (g.D.Disk.face u.disk))
    (λ u back may. looks_stops c.args.taking (arc_value c.args.job.now) (g.F.Disk.face c.args.old.now) (g.F.Disk.face c.open_empty.new.old)
    (g.D.Disk.face c.args.disk) (g.D.Disk.face c.in-Err.field-0.disk) (g.D.Disk.face u.disk) u.fault
    c.in-Err.ensures.back.looks back.keeps.runs may) c.open_empty.ensures.back c.open_empty.ensures.fault

pub returns-in-Empty-clause-old_unasked : goal.returns-in-Empty-clause-old_unasked
returns-in-Empty-clause-old_unasked g c told = absurd (not_empty (arc_value c.args.job.now) (g.D.Disk.face c.args.disk)
    (g.D.Disk.face c.in-Err.field-0.disk) c.in-Err.ensures.back.looks
    (found_empty (arc_value c.args.job.now) c.in-Err.field-0.fault (g.D.Disk.face c.args.disk)
    (g.D.Disk.face c.in-Err.field-0.disk) c.in-Empty.is c.in-Err.ensures.fault) told)

pub returns-in_default-clause-back : goal.returns-in_default-clause-back
returns-in_default-clause-back g c = attached_back g.D.Disk.face g.D.Disk.loans c.args.taking (arc_value c.args.job.now)
    (g.F.Disk.face c.args.old.now) c.in-Err.ensures.valid c.args.disk c.in-Err.field-0.disk c.in-Err.ensures.back

pub returns-in_default-clause-fault : goal.returns-in_default-clause-fault
returns-in_default-clause-fault g c =
    subst (λ (stop : OpenFault). OpenMayFail (keeping false c.args.taking) (arc_value c.args.job.now) stop (g.F.Disk.face c.args.old.now)
    (g.F.Disk.face c.args.old.now) (g.D.Disk.face c.args.disk) (g.D.Disk.face c.in-Err.field-0.disk)) (sym c.attach_fault.ensures)
    (attach_stops c.args.taking (arc_value c.args.job.now) (g.F.Disk.face c.args.old.now) (g.F.Disk.face c.args.old.now) (g.D.Disk.face c.args.disk)
    (g.D.Disk.face c.in-Err.field-0.disk) c.in-Err.field-0.fault
    c.in_default.not-Empty c.in-Err.ensures.back.looks c.in-Err.ensures.fault)

pub returns-in_default-clause-reading : goal.returns-in_default-clause-reading
returns-in_default-clause-reading g c = read_only_same (g.F.Disk.face c.args.old.now)
