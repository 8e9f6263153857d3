use Rattle.std.proofs.Common.{◌≡◌, ◌<◌, length, rules}
use Rattle.std.specs.Arc.{arc_value}
use Rattle.qh_lease.specs.Lease.{lease_at}
use Rattle.qh_lease.specs.declared.lease.Lease.TheVariants.{Out}
use Rattle.qh_core.specs.Replay.{CourseView}
use Rattle.qh_board.specs.Claims.{given_back}
use Rattle.qh_board.proofs.BoardLemmas.{given_back_board}
use Rattle.qh_board.proofs.board.Board.give_back.Goals as goal

pub invariant_of-self-2 : goal.invariant_of-self-2
invariant_of-self-2 g c =
    let known : c.args.ticket.range < length c.self.inside.course.leases = search rules in
    let held : lease_at c.self.inside.course.leases c.args.ticket.range ≡ Out c.args.ticket.attempt = search rules in
    let after : c.give_back.new.self ≡ given_back c.self.inside.course c.args.ticket = search rules in
    given_back_board g.D.Disk.face
    (record { job = arc_value c.self.inside.job; journal = c.self.inside.journal; timer = c.self.inside.timer; course = c.self.inside.course; total = c.self.inside.total; tally = c.self.inside.tally })
    c.self.invariant _ _ _ c.args.ticket held known after c.give_back.ensures.begun c.back.ensures.totals
