use Rattle.std.proofs.Common.{◌≡◌, None, sym, ap, subst, ◌∙◌}
use Rattle.qh_lease.specs.Tally.{Count}
use Rattle.std.specs.Arc.{arc_value}
use Rattle.qh_board.specs.Board.{BoardView}
use Rattle.qh_board.specs.Claims.{IsNext}
use Rattle.qh_board.proofs.LateLemmas.{next_told}
use Rattle.qh_board.proofs.BoardLemmas.{granted_board, next_known}
use Rattle.qh_board.proofs.board.Board.claim.Goals as goal

pub invariant_of-self-2 : goal.invariant_of-self-2
invariant_of-self-2 g c =
    let known = next_known g.T.Timer.due_count g.T.Timer.not_due_count g.T.Timer.may_say c.self.inside.course.leases c.self.inside.timer.now c.next.new.timer c.in-Some-next.range c.in-Some-next.ensures.found in
    granted_board g.D.Disk.face
    (record { job = arc_value c.self.inside.job; journal = c.self.inside.journal; timer = c.self.inside.timer; course = c.self.inside.course; total = c.self.inside.total; tally = c.self.inside.tally })
    c.self.invariant _ _ _ c.grant-ticket.result c.in-Some-next.range c.grant-ticket.ensures.range known.0 known.1 c.grant-ticket.ensures.course c.grant-ticket.ensures.begun (ap (λ (n : Count). n.totals) c.grant-ticket.ensures.tally)

pub returns-clause-comes : goal.returns-clause-comes
returns-clause-comes g c =
    subst (λ (v : BoardView g.row.D.Denot g.row.T.Denot). (v.course.fault ≡ None)
    × IsNext g.T.Timer.due_count g.T.Timer.not_due_count g.T.Timer.may_say v.course.leases v.timer.now c.grant-ticket.new.timer c.grant-ticket.result.range) c.self.view_is (
      sym c.fault.ensures ∙ c.in_default.is,
      next_told g.T.Timer.due_count g.T.Timer.not_due_count g.T.Timer.may_say c.self.inside.course.leases c.self.inside.timer.now c.next.new.timer c.grant-ticket.new.timer
          c.in-Some-next.range c.grant-ticket.result.range c.grant-ticket.ensures.range c.grant-ticket.ensures.due c.grant-ticket.ensures.not_due c.in-Some-next.ensures.found,
    )
