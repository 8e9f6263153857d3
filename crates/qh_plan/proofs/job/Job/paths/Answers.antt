use Rattle.std.proofs.Common.{arith, ap, ◌∙◌}
use Rattle.qh_plan.specs.Jobs.{paths}
use Rattle.qh_plan.proofs.RunLemmas.{counted}
use Rattle.qh_plan.proofs.job.Job.paths.Goals as goal

pub overflow_mul-result : goal.overflow_mul-result
overflow_mul-result c =
    let k = counted _ _ c.self.invariant in
    rw (c.self.invariant.prefixes_are, c.self.invariant.roots_are) (omega (arith, k.pairs_few))

pub overflow_mul-result-2 : goal.overflow_mul-result-2
overflow_mul-result-2 c =
    let k = counted _ _ c.self.invariant in
    rw (c.self.invariant.prefixes_are, c.self.invariant.roots_are, c.self.invariant.per_range_is) (omega (arith, k.product, k.few))

pub returns-clause-value : goal.returns-clause-value
returns-clause-value c =
    let k = counted _ _ c.self.invariant in
    rw (c.self.invariant.prefixes_are, c.self.invariant.roots_are, c.self.invariant.per_range_is) (k.product ∙ ap paths c.self.view_is)
