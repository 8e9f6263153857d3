use Rattle.qh_core.proofs.HeldLemmas.{none_open}
use Rattle.qh_core.proofs.course.Course.is_finished.Goals as goal

pub returns : goal.returns
returns c = rw (← c.self.view_is) (none_open c.self.inside.leases c.self.inside.remaining c.self.invariant.remaining_is)
