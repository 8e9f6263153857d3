use Rattle.std.proofs.Common.{◌≡◌, ℕ, List, false, sym, ap, subst, ◌∙◌}
use Rattle.qh_lease.specs.declared.lease.Lease.{Lease}
use Rattle.qh_lease.specs.Lease.{lease_at}
use Rattle.qh_core.specs.Replay.{CourseView, is_open}
use Rattle.qh_range.specs.Results.{RangeResult}
use Rattle.qh_board.specs.Groups.{kept, all_acknowledged}
use Rattle.qh_run.proofs.CarryLemmas.{stays_carries}
use Rattle.qh_run.proofs.SweepLemmas.{acked_recorded, fault_recorded, group_carries, group_halts}
use Rattle.qh_run.proofs.sweep.record_group.Goals as goal

pub returns-in-Acked-clause-carries : goal.returns-in-Acked-clause-carries
returns-in-Acked-clause-carries g c =
    group_carries g.D.Disk.face g.D.Disk.loans c.args.board.now c.deliver_group.new.self c.args.share.now c.deliver_group.new.share c.args.group c.requires.below
    c.in-Acked.ensures.comes.1 c.deliver_group.ensures.disk c.deliver_group.ensures.begun c.in-Acked.ensures.does

pub returns-in-Acked-clause-running : goal.returns-in-Acked-clause-running
returns-in-Acked-clause-running g c =
    let old = c.args.board.now in
    ap (λ b. b.course.fault) c.in-Acked.ensures.does.board ∙ fault_recorded (kept old.course.leases c.args.group) old.course ∙ c.requires.running

pub returns-in-Acked-clause-recorded : goal.returns-in-Acked-clause-recorded
returns-in-Acked-clause-recorded g c q is =
    let old = c.args.board.now in
    subst (λ (course : CourseView). is_open (lease_at course.leases q) ≡ false) (sym (ap (λ b. b.course) c.in-Acked.ensures.does.board))
    (acked_recorded c.args.group old.course q c.requires.below is)

pub returns-in-Repeat-clause-carries : goal.returns-in-Repeat-clause-carries
returns-in-Repeat-clause-carries g c =
    stays_carries g.D.Disk.face g.D.Disk.loans c.args.board.now c.deliver_group.new.self c.args.share.now c.deliver_group.new.share c.in-Repeat.ensures.does

pub returns-in-Repeat-clause-recorded : goal.returns-in-Repeat-clause-recorded
returns-in-Repeat-clause-recorded g c q is =
    let old = c.args.board.now in
    subst (λ (course : CourseView). is_open (lease_at course.leases q) ≡ false) (sym (ap (λ b. b.course) c.in-Repeat.ensures.does.board))
    (subst (λ (results : List RangeResult). is_open (lease_at (all_acknowledged old.course results).leases q) ≡ false) c.in-Repeat.ensures.comes.1
    (acked_recorded c.args.group old.course q c.requires.below is))

pub returns-in-DiskFault-clause-carries : goal.returns-in-DiskFault-clause-carries
returns-in-DiskFault-clause-carries g c =
    group_halts g.D.Disk.face g.D.Disk.loans c.args.board.now c.deliver_group.new.self c.args.share.now c.deliver_group.new.share c.args.group c.requires.below
    c.in-DiskFault.ensures.comes.1 c.deliver_group.ensures.disk c.deliver_group.ensures.begun c.in-DiskFault.ensures.does
