use Rattle.std.proofs.Common.{◌≡◌, Option, Some, set, subst, sym, rules}
use Rattle.qh_plan.specs.declared.verdict.Verdict.{Verdict}
use Rattle.qh_disk.specs.Disk.{Reads}
use Rattle.qh_parts.specs.Laying.{IsLaid}
use Rattle.qh_migrate.specs.Laid.{put}
use Rattle.qh_migrate.proofs.moving.put.Goals as goal

pub returns-in_default-clause-laid : goal.returns-in_default-clause-laid
returns-in_default-clause-laid g c s reads = subst (λ (o : Option Verdict). Reads (g.D.Disk.face c.args.disk.now) (IsLaid c.args.job.now (put s c.args.range o))) (sym c.in_default.is) reads

pub returns-clause-laid : goal.returns-clause-laid
returns-clause-laid g c s reads =
    subst (λ (o : Option Verdict). Reads (g.D.Disk.face c.write_slot.new.disk) (IsLaid c.args.job.now (put s c.args.range o))) (sym c.in-Some.is) (c.in_ok-write_slot.ensures.laid s reads)
