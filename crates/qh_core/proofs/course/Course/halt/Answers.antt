use Rattle.std.proofs.Common.{◌≡◌, None, ap, ◌∙◌}
use Rattle.qh_core.proofs.HeldLemmas.{halted_held}
use Rattle.qh_core.proofs.course.Course.halt.Goals as goal

pub invariant_of-self : goal.invariant_of-self
invariant_of-self c =
    let running : c.self.inside.fault ≡ None = ap (λ v. v.fault) c.self.view_is ∙ c.requires.running in
    rw (c.push_reserved.ensures.items, c.push_reserved.ensures.capacity) (halted_held _ _ _ _ _ c.args.faults c.self.invariant running)
