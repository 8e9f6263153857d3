use Rattle.qh_request.specs.Jobs.{request}
use Rattle.qh_endure.proofs.Rounds.{Endures}
use Rattle.qh_endure.proofs.enduring.endure.Given as goal

abbrev pub invariant-loop-next : goal.invariant-loop-next
invariant-loop-next l = Endures (request l.words) l.circuit l.bits l.fn.disk l.disk l.fn.out l.out l.status
