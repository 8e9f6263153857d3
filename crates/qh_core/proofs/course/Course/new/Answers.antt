use Rattle.std.proofs.Common.{arith}
use Rattle.qh_core.proofs.HeldLemmas.{new_held}
use Rattle.qh_core.proofs.course.Course.new.Goals as goal

pub invariant_of-result : goal.invariant_of-result
invariant_of-result c =
    rw (c.in_ok-new.ensures, c.in_ok-with_capacity.ensures.items)
    (new_held c.args.ranges _ _ c.requires.some c.requires.few (omega (arith, c.in_ok-with_capacity.ensures.exact)))
