use Rattle.std.proofs.Common.{◌≡◌, ℕ, List, [], length, subst, sym, ap, ◌∙◌, arith, rules}
use Rattle.std.specs.Arc.{arc_value}
use Rattle.qh_plan.specs.Jobs.{Job, IsJob}
use Rattle.qh_disk.specs.Disk.{Face, Reads}
use Rattle.qh_disk.specs.Moments.{EachImage}
use Rattle.qh_disk.proofs.Moments.{safe_each}
use Rattle.qh_slots.specs.Stands.{Slots, Stands, Stands1}
use Rattle.qh_parts.specs.Laying.{Creates, IsFresh}
use Rattle.qh_migrate.specs.declared.fault.MigrateFault.{MigrateFault}
use Rattle.qh_migrate.specs.Moving.{MigrateMayFail, Leaves, OldMayFail, count_open}
use Rattle.qh_migrate.proofs.MoveLemmas.{empty_reads, leaves_same, leaves_created, leaves_made, migrate_fault}
use Rattle.qh_migrate.proofs.migrating.migrate.Goals as goal

pub returns-in_default-clause-leaves : goal.returns-in_default-clause-leaves
returns-in_default-clause-leaves g c = leaves_same (arc_value c.args.job.now) (g.F.Disk.face c.args.old.now) (g.D.Disk.face c.args.new.now) (g.met.D.Disk.current c.args.new.now) c.requires

pub returns-in_default-head-clause-leaves : goal.returns-in_default-head-clause-leaves
returns-in_default-head-clause-leaves g c = leaves_same (arc_value c.args.job.now) (g.F.Disk.face c.args.old.now) (g.D.Disk.face c.args.new.now) (g.met.D.Disk.current c.args.new.now) c.requires

pub returns-in_default-vec-clause-leaves : goal.returns-in_default-vec-clause-leaves
returns-in_default-vec-clause-leaves g c = leaves_same (arc_value c.args.job.now) (g.F.Disk.face c.args.old.now) (g.D.Disk.face c.args.new.now) (g.met.D.Disk.current c.args.new.now) c.requires

pub returns-in-Err-clause-leaves : goal.returns-in-Err-clause-leaves
returns-in-Err-clause-leaves g c = leaves_same (arc_value c.args.job.now) (g.F.Disk.face c.args.old.now) (g.D.Disk.face c.args.new.now) (g.met.D.Disk.current c.args.new.now) c.requires

pub returns-in-Err-clause-fault : goal.returns-in-Err-clause-fault
returns-in-Err-clause-fault g c =
    subst (λ (u : MigrateFault). MigrateMayFail g.F.Disk.face g.D.Disk.face (arc_value c.args.job.now) u c.args.old.now c.look_through.new.disk c.args.new.now c.args.new.now) (sym c.migrate_fault.ensures)
    (migrate_fault g.F.Disk.face g.D.Disk.face (arc_value c.args.job.now) c.in-Err.fault c.args.old.now c.look_through.new.disk c.args.new.now
    (subst (λ (j : Job). OldMayFail j c.in-Err.fault (g.F.Disk.face c.args.old.now) (g.F.Disk.face c.look_through.new.disk)) c.deref-4.ensures c.in-Err.ensures.fault))

pub fill-requires-clause-empty : goal.fill-requires-clause-empty
fill-requires-clause-empty g c = empty_reads (g.D.Disk.face c.args.new.now) (g.met.D.Disk.current c.args.new.now) c.requires

-- the call laid what was read
leaves_for : (j k : Job) (t l : Slots) (was old new : Face) → k ≡ j → l ≡ t → IsJob j → Reads was (Stands1 j t) → EachImage old (λ f. f ≡ []) → Creates k l old new → Reads new (IsFresh k l) → Leaves j was old new
leaves_for j k t l was old new ek el is stood empty creates fresh = leaves_created j is t was old new stood empty
    (subst (λ (s : Slots). Creates j s old new) el (subst (λ (i : Job). Creates i l old new) ek creates))
    (subst (λ (s : Slots). Reads new (IsFresh j s)) el (subst (λ (i : Job). Reads new (IsFresh i l)) ek fresh))

pub returns-in-Ok-fill-clause-leaves : goal.returns-in-Ok-fill-clause-leaves
returns-in-Ok-fill-clause-leaves g c = leaves_for (arc_value c.args.job.now) c.deref-5.result.now c.in-Ok-look_through.table.items c.as_slice-3.result.now (g.F.Disk.face c.args.old.now) (g.D.Disk.face c.args.new.now) (g.D.Disk.face c.fill.new.disk)
    c.deref-5.ensures c.as_slice-3.ensures.value (subst (λ (j : Job). IsJob j) c.deref-3.ensures c.body_size.ensures.valid)
    (subst (λ (j : Job). Reads (g.F.Disk.face c.args.old.now) (Stands1 j c.in-Ok-look_through.table.items)) c.deref-4.ensures c.in-Ok-look_through.ensures.slots)
    c.requires c.fill.ensures.creates c.fill.ensures.fresh

pub returns-in-Ok-fill-clause-made : goal.returns-in-Ok-fill-clause-made
returns-in-Ok-fill-clause-made g c = leaves_made (arc_value c.args.job.now) (subst (λ (j : Job). IsJob j) c.deref-3.ensures c.body_size.ensures.valid) (g.F.Disk.face c.args.old.now) (g.D.Disk.face c.args.new.now) (g.D.Disk.face c.fill.new.disk)
    (leaves_for (arc_value c.args.job.now) c.deref-5.result.now c.in-Ok-look_through.table.items c.as_slice-3.result.now (g.F.Disk.face c.args.old.now) (g.D.Disk.face c.args.new.now) (g.D.Disk.face c.fill.new.disk)
    c.deref-5.ensures c.as_slice-3.ensures.value (subst (λ (j : Job). IsJob j) c.deref-3.ensures c.body_size.ensures.valid)
    (subst (λ (j : Job). Reads (g.F.Disk.face c.args.old.now) (Stands1 j c.in-Ok-look_through.table.items)) c.deref-4.ensures c.in-Ok-look_through.ensures.slots)
    c.requires c.fill.ensures.creates c.fill.ensures.fresh)

pub returns-in-Ok-fill-clause-moved : goal.returns-in-Ok-fill-clause-moved
returns-in-Ok-fill-clause-moved g c =
    let reads = subst (λ (s : Slots). Reads (g.D.Disk.face c.fill.new.disk) (Stands (arc_value c.args.job.now) s)) c.as_slice-3.ensures.value
    (subst (λ (j : Job). Reads (g.D.Disk.face c.fill.new.disk) (Stands j c.as_slice-3.result.now)) c.deref-5.ensures c.in-Ok-fill.ensures.stands) in
    record {
      slots = c.in-Ok-look_through.table.items;
      stood = subst (λ (j : Job). Reads (g.F.Disk.face c.args.old.now) (Stands1 j c.in-Ok-look_through.table.items)) c.deref-4.ensures c.in-Ok-look_through.ensures.slots;
      safe = c.in-Ok-fill.ensures.safe;
      stands = safe_each (Stands (arc_value c.args.job.now) c.in-Ok-look_through.table.items) (g.D.Disk.face c.fill.new.disk) c.in-Ok-fill.ensures.safe reads;
      reads = reads;
      counted = c.in-Ok-fill.ensures.count ∙ ap (λ (s : Slots). count_open s) c.as_slice-3.ensures.value;
    }

pub returns-clause-fault : goal.returns-clause-fault
returns-clause-fault g c = (
  c.in-Err-fill.ensures.rose,
  record {
    slots = c.in-Ok-look_through.table.items;
    stood = subst (λ (j : Job). Reads (g.F.Disk.face c.args.old.now)
        (Stands1 j c.in-Ok-look_through.table.items)) c.deref-4.ensures c.in-Ok-look_through.ensures.slots;
  },
)

pub returns-clause-leaves : goal.returns-clause-leaves
returns-clause-leaves g c = leaves_for (arc_value c.args.job.now) c.deref-5.result.now c.in-Ok-look_through.table.items c.as_slice-3.result.now (g.F.Disk.face c.args.old.now) (g.D.Disk.face c.args.new.now) (g.D.Disk.face c.fill.new.disk)
    c.deref-5.ensures c.as_slice-3.ensures.value (subst (λ (j : Job). IsJob j) c.deref-3.ensures c.body_size.ensures.valid)
    (subst (λ (j : Job). Reads (g.F.Disk.face c.args.old.now) (Stands1 j c.in-Ok-look_through.table.items)) c.deref-4.ensures c.in-Ok-look_through.ensures.slots)
    c.requires c.fill.ensures.creates c.fill.ensures.fresh

pub returns-clause-made : goal.returns-clause-made
returns-clause-made g c = leaves_made (arc_value c.args.job.now) (subst (λ (j : Job). IsJob j) c.deref-3.ensures c.body_size.ensures.valid) (g.F.Disk.face c.args.old.now) (g.D.Disk.face c.args.new.now) (g.D.Disk.face c.fill.new.disk)
    (leaves_for (arc_value c.args.job.now) c.deref-5.result.now c.in-Ok-look_through.table.items c.as_slice-3.result.now (g.F.Disk.face c.args.old.now) (g.D.Disk.face c.args.new.now) (g.D.Disk.face c.fill.new.disk)
    c.deref-5.ensures c.as_slice-3.ensures.value (subst (λ (j : Job). IsJob j) c.deref-3.ensures c.body_size.ensures.valid)
    (subst (λ (j : Job). Reads (g.F.Disk.face c.args.old.now) (Stands1 j c.in-Ok-look_through.table.items)) c.deref-4.ensures c.in-Ok-look_through.ensures.slots)
    c.requires c.fill.ensures.creates c.fill.ensures.fresh)
