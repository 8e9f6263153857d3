use Rattle.std.proofs.Common.{◌≡◌, arith, ap, ◌∙◌}
use Rattle.qh_plan.specs.Jobs.{roots}
use Rattle.qh_plan.proofs.RunLemmas.{prefix_in}
use Rattle.qh_plan.proofs.job.Job.prefix_of.Goals as goal

pub overflow_add-result : goal.overflow_add-result
overflow_add-result c = let w = c.earlier.ensures.within in rw c.from.ensures (omega (arith, w, c.requires))

pub returns-clause-of_paths : goal.returns-clause-of_paths
returns-clause-of_paths c = λ path h.
    let r : c.self.inside.roots ≡ roots c.args.self.now = c.self.invariant.roots_are ∙ ap roots c.self.view_is in
    rw (r, c.earlier.ensures.value, c.from.ensures) (prefix_in c.args.self.now c.args.range path h)
