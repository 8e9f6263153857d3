use Rattle.std.proofs.Common.{arith, ◌≡◌, ◌+◌, ◌≤◌, ℕ, subst}
use Rattle.std.specs.Arc.{arc_value}
use Rattle.qh_plan.specs.Jobs.{Job}
use Rattle.qh_prefix.specs.declared.stage.Stage.TheVariants.{Prefix}
use Rattle.qh_prefix.specs.Stages.{stage_steps}
use Rattle.qh_range.specs.Steps.{range_steps, whole_steps}
use Rattle.qh_range.proofs.evaluation.evaluate.Goals as goal

later : (a p r s : ℕ) → s ≤ a + r → s ≤ a + (p + r)
later a p r s l = omega arith

pub returns-in-Some-clause-steps : goal.returns-in-Some-clause-steps
returns-in-Some-clause-steps g c =
    λ some. subst (λ (k : Job). c.evaluate.new.steps ≤ c.args.steps.now + range_steps k) c.in_ok-room.ensures c.evaluate.ensures.steps

pub returns-in-Some-clause-steps_without : goal.returns-in-Some-clause-steps_without
returns-in-Some-clause-steps_without g c =
    let j = arc_value c.args.job.now in
    later c.args.steps.now (stage_steps Prefix j) (range_steps j) c.evaluate.new.steps
    (subst (λ (k : Job). c.evaluate.new.steps ≤ c.args.steps.now + range_steps k) c.in_ok-room.ensures c.evaluate.ensures.steps)

pub returns-clause-steps_without : goal.returns-clause-steps_without
returns-clause-steps_without g c =
    subst (λ (k : Job). c.evaluate_alone.new.steps ≤ c.args.steps.now + whole_steps k) c.in_ok-room.ensures c.evaluate_alone.ensures.steps
