use Rattle.std.proofs.Common.{length}
use Rattle.qh_board.proofs.PickLemmas.{IsPicking}
use Rattle.qh_board.proofs.picking.pick.Given as goal

abbrev pub invariant-loop-outcome : goal.invariant-loop-outcome
invariant-loop-outcome l = IsPicking l.job l.course.leases l.fn.group l.group l.picked.members.items l.picked.entries.items

abbrev pub decreases-loop-outcome : goal.decreases-loop-outcome
decreases-loop-outcome l = length l.group
