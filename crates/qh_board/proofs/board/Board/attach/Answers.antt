use Rattle.std.proofs.Common.{◌≡◌, sym, subst, rules}
use Rattle.std.specs.Arc.{arc_value}
use Rattle.qh_plan.specs.Jobs.{Job}
use Rattle.qh_core.specs.Replay.{CourseView}
use Rattle.qh_slots.specs.Running.{IsTotalOf}
use Rattle.qh_board.specs.Board.{BoardView, IsBoard, started}
use Rattle.qh_board.proofs.StartLemmas.{started_board}
use Rattle.qh_board.proofs.board.Board.attach.Goals as goal

pub invariant_of-result : goal.invariant_of-result
invariant_of-result g c =
    let total : IsTotalOf (arc_value c.args.job) c.args.journal.table c.in-Ok-total_of.total = search rules in
    let course : c.in-Ok.course ≡ started c.args.journal.table = search rules in
    subst (λ (j : Job). IsBoard g.D.Disk.face (record { job = j; journal = c.args.journal; timer = c.args.timer; course = c.in-Ok.course; total = c.in-Ok-total_of.total; tally = c.args.tally })) c.requires.job
    (subst (λ (k : CourseView). IsBoard g.D.Disk.face (record { job = c.args.journal.job; journal = c.args.journal; timer = c.args.timer; course = k; total = c.in-Ok-total_of.total; tally = c.args.tally })) (sym course)
    (started_board g.D.Disk.face c.args.journal c.args.timer c.in-Ok-total_of.total c.args.tally c.failed.ensures.valid c.requires.whole c.requires.totals
    (subst (λ (j : Job). IsTotalOf j c.args.journal.table c.in-Ok-total_of.total) (sym c.requires.job) total)))
