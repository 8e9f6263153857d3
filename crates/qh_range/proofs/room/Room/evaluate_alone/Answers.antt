use Rattle.std.proofs.Common.{◌≡◌, ◌+◌, ◌<◌, ◌≤◌, sym, subst, ◌∙◌}
use Rattle.std.proofs.Math.Path.{ap₂}
use Rattle.std.specs.Arc.{arc_value}
use Rattle.qh_plan.specs.Jobs.{Job, IsJob, ranges, prefixes}
use Rattle.qh_plan.specs.Ranges.{prefix_of}
use Rattle.qh_prefix.specs.declared.stage.Stage.TheVariants.{Prefix}
use Rattle.qh_prefix.specs.Stages.{stage_steps}
use Rattle.qh_range.specs.Steps.{range_steps}
use Rattle.qh_range.proofs.RootLemmas.{prefix_within}
use Rattle.qh_range.proofs.ValueLemmas.{steps_within}
use Rattle.qh_range.proofs.room.Room.evaluate_alone.Goals as goal

pub make_checkpoint-requires : goal.make_checkpoint-requires
make_checkpoint-requires g c =
    let j = arc_value c.self.inside.job in
    let range = c.args.ticket.now.range in
    let valid : IsJob j = subst IsJob (sym c.self.view_is) c.zeros.ensures.valid in
    let below : range < ranges j = subst (λ (k : Job). range < ranges k) (sym c.self.view_is) c.requires in
    let e : c.prefix_of-prefix.result ≡ prefix_of j range = c.prefix_of-prefix.ensures.value ∙ ap₂ prefix_of c.deref.ensures c.range.ensures in
    subst (λ n. n < prefixes j) (sym e) (prefix_within j valid range below)

pub returns-clause-steps : goal.returns-clause-steps
returns-clause-steps g c =
    let j = c.args.self.now in
    let made : c.make_checkpoint.new.steps ≤ c.args.steps.now + stage_steps Prefix j = subst (λ (k : Job). c.make_checkpoint.new.steps ≤ c.args.steps.now + stage_steps Prefix k) c.self.view_is c.make_checkpoint.ensures.steps in
    steps_within c.args.steps.now c.make_checkpoint.new.steps (stage_steps Prefix j) (range_steps j) c.run.new.steps made c.run.ensures.steps
