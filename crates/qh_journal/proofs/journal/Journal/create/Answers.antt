use Rattle.std.proofs.Common.{sym, ap, subst, ◌∙◌}
use Rattle.std.specs.Prelude.{vec_len}
use Rattle.std.specs.Arc.{arc_value}
use Rattle.qh_plan.specs.Jobs.{Job}
use Rattle.qh_disk.specs.Disk.{Reads}
use Rattle.qh_slots.specs.Stands.{Slots, Stands, nones}
use Rattle.qh_journal.specs.Calls.{IsRoom}
use Rattle.qh_journal.proofs.CreateLemmas.{is_created, fresh_journal}
use Rattle.qh_journal.proofs.journal.Journal.create.Goals as goal

pub invariant_of-result : goal.invariant_of-result
invariant_of-result g c = (
  fresh_journal g.D.Disk.face c.make.new.disk (arc_value c.in-Ok.kept.job) c.in-Ok.kept.table.items (c.in-Ok.ensures.table ∙ ap (λ (j : Job). nones j) (sym c.in-Ok.ensures.job)) c.in-Ok.ensures.safe
      (subst (λ (j : Job). Reads (g.D.Disk.face c.make.new.disk) (Stands j (nones j))) (sym c.in-Ok.ensures.job) c.in-Ok.ensures.stands),
  subst (λ (j : Job). IsRoom j (vec_len c.in-Ok.kept.body) c.in-Ok.kept.start) (sym c.in-Ok.ensures.job) c.in-Ok.ensures.room,
)

pub returns-in-Ok-clause-disk : goal.returns-in-Ok-clause-disk
returns-in-Ok-clause-disk g c = (
  is_created g.D.Disk.face g.D.Disk.loans (arc_value c.args.job.now) c.args.disk c.make.new.disk c.make.ensures.valid c.make.ensures.same c.make.ensures.creates c.make.ensures.fresh,
  c.in-Ok.ensures.safe,
  subst (λ (j : Job). Reads (g.D.Disk.face c.make.new.disk) (Stands j c.in-Ok.kept.table.items)) (sym c.in-Ok.ensures.job)
      (subst (λ (t : Slots). Reads (g.D.Disk.face c.make.new.disk) (Stands (arc_value c.args.job.now) t)) (sym c.in-Ok.ensures.table) c.in-Ok.ensures.stands),
)

pub returns-in-Err-clause-back : goal.returns-in-Err-clause-back
returns-in-Err-clause-back g c = is_created g.D.Disk.face g.D.Disk.loans (arc_value c.args.job.now) c.args.disk c.make.new.disk c.make.ensures.valid c.make.ensures.same c.make.ensures.creates c.make.ensures.fresh
