use Rattle.std.proofs.Common.{◌≡◌, arith, ap, subst, ◌∙◌}
use Rattle.qh_plan.specs.Jobs.{IsJob, per_range}
use Rattle.qh_plan.proofs.RunLemmas.{IsCounted, counted, range_within}
use Rattle.qh_plan.proofs.job.Job.first_path.Goals as goal

pub overflow_add-result : goal.overflow_add-result
overflow_add-result c = let w = c.earlier.ensures.within in rw c.from.ensures (omega (arith, w, c.requires))

pub overflow_mul-result : goal.overflow_mul-result
overflow_mul-result c =
    let k = subst IsCounted c.self.view_is (counted _ _ c.self.invariant) in
    let h = subst IsJob c.self.view_is c.self.invariant.planned.valid in
    let n : c.self.inside.per_range ≡ per_range c.args.self.now = c.self.invariant.per_range_is ∙ ap per_range c.self.view_is in
    let w = range_within c.args.self.now c.args.range h k c.requires in
    rw (n, c.earlier.ensures.value, c.from.ensures) (omega (arith, w, k.few))

pub returns-clause-within : goal.returns-clause-within
returns-clause-within c =
    let k = subst IsCounted c.self.view_is (counted _ _ c.self.invariant) in
    let h = subst IsJob c.self.view_is c.self.invariant.planned.valid in
    let n : c.self.inside.per_range ≡ per_range c.args.self.now = c.self.invariant.per_range_is ∙ ap per_range c.self.view_is in
    rw (n, c.earlier.ensures.value, c.from.ensures) (range_within c.args.self.now c.args.range h k c.requires)
