use Rattle.std.proofs.Common.{◌≡◌, ◌<◌, length, true, ap, rules}
use Rattle.qh_lease.specs.Tally.{Count}
use Rattle.std.specs.Arc.{arc_value}
use Rattle.qh_lease.specs.Lease.{lease_at, may_grant}
use Rattle.qh_board.proofs.BoardLemmas.{granted_board}
use Rattle.qh_board.proofs.board.Board.admit.Goals as goal

pub invariant_of-self : goal.invariant_of-self
invariant_of-self g c =
    let known : c.args.range < length c.self.inside.course.leases = search rules in
    let grantable : may_grant (lease_at c.self.inside.course.leases c.args.range) ≡ true = search rules in
    granted_board g.D.Disk.face
    (record { job = arc_value c.self.inside.job; journal = c.self.inside.journal; timer = c.self.inside.timer; course = c.self.inside.course; total = c.self.inside.total; tally = c.self.inside.tally })
    c.self.invariant _ _ _ c.grant-ticket.result c.args.range c.grant-ticket.ensures.range known grantable c.grant-ticket.ensures.course c.grant-ticket.ensures.begun (ap (λ (n : Count). n.totals) c.grant-ticket.ensures.tally)
