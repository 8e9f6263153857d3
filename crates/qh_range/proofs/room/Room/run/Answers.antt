use Rattle.std.proofs.Common.{◌≡◌, ◌+◌, ◌*◌, ◌≤◌, sym, subst, ◌∙◌}
use Rattle.std.proofs.Math.Path.{ap₂, subst₂}
use Rattle.qh_plan.specs.Jobs.{Job, IsJob, per_range}
use Rattle.qh_plan.specs.Ranges.{prefix_of}
use Rattle.qh_prefix.specs.declared.part.Part.TheVariants.{One, Two}
use Rattle.qh_prefix.specs.declared.stage.Stage.TheVariants.{Root, Suffix}
use Rattle.qh_prefix.specs.Stages.{stage_steps}
use Rattle.qh_prefix.specs.Checkpoints.{IsAtPrefix}
use Rattle.qh_range.specs.Sides.{IsAtRoot}
use Rattle.qh_range.proofs.ValueLemmas.{steps_after}
use Rattle.qh_range.proofs.room.Room.run.Goals as goal

pub go_to_root-requires-clause-valid : goal.go_to_root-requires-clause-valid
go_to_root-requires-clause-valid g c =
    let e : c.deref.result.now ≡ c.args.self.now = c.deref.ensures ∙ c.self.view_is in
    subst IsJob (sym e) c.requires.valid

pub go_to_root-requires-clause-one_from : goal.go_to_root-requires-clause-one_from
go_to_root-requires-clause-one_from g c =
    let e : c.deref.result.now ≡ c.args.self.now = c.deref.ensures ∙ c.self.view_is in
    subst₂ (λ (k : Job) w. IsAtPrefix One k w c.one.result.now) (c.requires.point_job ∙ sym e) (c.requires.point_prefix ∙ ap₂ prefix_of (sym e) (sym c.range-range.ensures)) c.one.ensures.holds

pub go_to_root-requires-clause-two_from : goal.go_to_root-requires-clause-two_from
go_to_root-requires-clause-two_from g c =
    let e : c.deref.result.now ≡ c.args.self.now = c.deref.ensures ∙ c.self.view_is in
    subst₂ (λ (k : Job) w. IsAtPrefix Two k w c.two.result.now) (c.requires.point_job ∙ sym e) (c.requires.point_prefix ∙ ap₂ prefix_of (sym e) (sym c.range-range.ensures)) c.two.ensures.holds

pub sum_range-verdict-requires-clause-valid : goal.sum_range-verdict-requires-clause-valid
sum_range-verdict-requires-clause-valid g c =
    let f : c.deref-2.result.now ≡ c.args.self.now = c.deref-2.ensures ∙ c.self.view_is in
    subst IsJob (sym f) c.requires.valid

pub sum_range-verdict-requires-clause-two_root : goal.sum_range-verdict-requires-clause-two_root
sum_range-verdict-requires-clause-two_root g c =
    subst (λ (k : Job). IsAtRoot Two k c.range-range.result c.go_to_root.new.two.root.numbers) (c.deref.ensures ∙ sym c.deref-2.ensures) c.go_to_root.ensures.two_root

pub returns-clause-steps : goal.returns-clause-steps
returns-clause-steps g c =
    let e : c.deref.result.now ≡ c.args.self.now = c.deref.ensures ∙ c.self.view_is in
    let f : c.deref-2.result.now ≡ c.args.self.now = c.deref-2.ensures ∙ c.self.view_is in
    steps_after c.args.steps.now c.go_to_root.new.steps _ _ c.sum_range-verdict.new.steps
    (subst (λ (k : Job). c.go_to_root.new.steps ≡ c.args.steps.now + stage_steps Root k) e c.go_to_root.ensures.steps)
    (subst (λ (k : Job). c.sum_range-verdict.new.steps ≤ c.go_to_root.new.steps + per_range k * stage_steps Suffix k) f c.sum_range-verdict.ensures.steps)
