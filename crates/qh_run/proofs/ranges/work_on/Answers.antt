use Rattle.std.proofs.Common.{◌≡◌, ◌<◌, length, sym, subst, ◌∙◌}
use Rattle.qh_run.proofs.CarryLemmas.{back_carries, record_carries, halt_carries, stays_carries}
use Rattle.qh_run.proofs.ranges.work_on.Goals as goal

pub returns-in_default-clause-carries : goal.returns-in_default-clause-carries
returns-in_default-clause-carries g c =
    let b = c.args.board.now in
    let back = c.give_back.ensures in
    back_carries g.D.Disk.face g.D.Disk.loans b c.give_back.new.self c.args.share.now c.give_back.new.share c.args.ticket c.give_back.result
    (subst (λ n. c.args.ticket.range < n) (sym c.requires.count) c.requires.known) (λ held. (back.held.0 held).1) back.back back.same back.begun

pub returns-in-Acked-clause-carries : goal.returns-in-Acked-clause-carries
returns-in-Acked-clause-carries g c =
    let b = c.args.board.now in
    let r = c.in-Ok.outcome in
    let below : r.range < length b.course.leases = subst (λ n. n < length b.course.leases) (sym c.in-Ok.ensures.range) (subst (λ n. c.args.ticket.range < n) (sym c.requires.count) c.requires.known) in
    record_carries g.D.Disk.face g.D.Disk.loans b c.deliver.new.self c.args.share.now c.deliver.new.share r c.in-Acked.ensures.does below c.in-Acked.ensures.comes.2
    c.deliver.ensures.disk c.deliver.ensures.begun

pub returns-in-Repeat-clause-carries : goal.returns-in-Repeat-clause-carries
returns-in-Repeat-clause-carries g c =
    stays_carries g.D.Disk.face g.D.Disk.loans c.args.board.now c.deliver.new.self c.args.share.now c.deliver.new.share c.in-Repeat.ensures.does

pub returns-in-DiskFault-clause-carries : goal.returns-in-DiskFault-clause-carries
returns-in-DiskFault-clause-carries g c =
    let b = c.args.board.now in
    let r = c.in-Ok.outcome in
    let below : r.range < length b.course.leases = subst (λ n. n < length b.course.leases) (sym c.in-Ok.ensures.range) (subst (λ n. c.args.ticket.range < n) (sym c.requires.count) c.requires.known) in
    halt_carries g.D.Disk.face g.D.Disk.loans b c.deliver.new.self c.args.share.now c.deliver.new.share r.range c.in-DiskFault.ensures.does below c.in-DiskFault.ensures.comes.2
    c.deliver.ensures.disk c.deliver.ensures.begun
