use Rattle.std.proofs.Common.{rules, arith, ◌≡◌, ◌+◌, ◌<◌, ◌≤◌, length, count_by, sym, ap, subst, ◌∙◌}
use Rattle.std.proofs.Math.Path.{subst₂}
use Rattle.std.specs.List.{AllZip}
use Rattle.std.specs.Arc.{arc_value}
use Rattle.qh_plan.specs.Jobs.{Job, IsJob}
use Rattle.qh_prefix.specs.declared.part.Part.TheVariants.{One, Two}
use Rattle.qh_prefix.specs.declared.stage.Stage.TheVariants.{Prefix}
use Rattle.qh_prefix.specs.Parts.{in_part, acts_in}
use Rattle.qh_prefix.specs.Places.{term_counts}
use Rattle.qh_prefix.specs.Stages.{stage_gates, stage_radices}
use Rattle.qh_prefix.specs.Checkpoints.{Checkpoint, IsCheckpoint, prefix_digits}
use Rattle.qh_prefix.specs.Starts.{IsStart}
use Rattle.qh_prefix.proofs.HalfLemmas.{start_takes, at_prefix, start_steps}
use Rattle.qh_prefix.proofs.checkpoint.make_checkpoint.Goals as goal

pub run_placed-requires-clause-path : goal.run_placed-requires-clause-path
run_placed-requires-clause-path g c =
    let j = arc_value c.args.job.now in
    let one : IsStart One j c.in_ok-one.one = subst (λ (k : Job). IsStart One k c.in_ok-one.one) c.deref.ensures c.in_ok-one.ensures in
    let ds = c.prefix_digits-digits.result.items in
    let valid : IsJob j = subst IsJob c.deref-3.ensures c.prefix_digits-digits.ensures.valid in
    let below : AllZip (λ d r. d < r) ds (stage_radices Prefix j) = subst (λ (k : Job). AllZip (λ d r. d < r) ds (stage_radices Prefix k)) c.deref-3.ensures c.prefix_digits-digits.ensures.below in
    subst₂ (λ es gs. AllZip (λ d r. d < r) es (term_counts gs)) (sym c.deref-5.ensures.0) (sym c.deref-4.ensures.value) (start_takes One j c.in_ok-one.one one ds valid below)

pub run_placed-requires-2-clause-path : goal.run_placed-requires-2-clause-path
run_placed-requires-2-clause-path g c =
    let j = arc_value c.args.job.now in
    let two : IsStart Two j c.in_ok-two.two = subst (λ (k : Job). IsStart Two k c.in_ok-two.two) c.deref-2.ensures c.in_ok-two.ensures in
    let ds = c.prefix_digits-digits.result.items in
    let valid : IsJob j = subst IsJob c.deref-3.ensures c.prefix_digits-digits.ensures.valid in
    let below : AllZip (λ d r. d < r) ds (stage_radices Prefix j) = subst (λ (k : Job). AllZip (λ d r. d < r) ds (stage_radices Prefix k)) c.deref-3.ensures c.prefix_digits-digits.ensures.below in
    subst₂ (λ es gs. AllZip (λ d r. d < r) es (term_counts gs)) (sym c.deref-7.ensures.0) (sym c.deref-6.ensures.value) (start_takes Two j c.in_ok-two.two two ds valid below)

pub invariant_of-result : goal.invariant_of-result
invariant_of-result g c =
    let j = arc_value c.args.job.now in
    let one : IsStart One j c.in_ok-one.one = subst (λ (k : Job). IsStart One k c.in_ok-one.one) c.deref.ensures c.in_ok-one.ensures in
    let two : IsStart Two j c.in_ok-two.two = subst (λ (k : Job). IsStart Two k c.in_ok-two.two) c.deref-2.ensures c.in_ok-two.ensures in
    let value : c.prefix_digits-digits.result.items ≡ prefix_digits j c.args.prefix = c.prefix_digits-digits.ensures.value ∙ ap (λ (k : Job). prefix_digits k c.args.prefix) c.deref-3.ensures in
    let same : arc_value c.in_ok-shared.shared ≡ j = search rules in
    subst (λ (k : Job). IsCheckpoint (record { job = k; prefix = c.args.prefix; one = c.run_placed.new.half; two = c.run_placed-2.new.half })) (sym same) (record {
      below = c.requires;
      one = at_prefix One j c.in_ok-one.one one c.args.prefix c.deref-4.result.now c.deref-5.result.now c.run_placed.new.half c.deref-4.ensures.value (c.deref-5.ensures.0 ∙ value)
          c.run_placed.ensures.size c.run_placed.ensures.after;
      two = at_prefix Two j c.in_ok-two.two two c.args.prefix c.deref-6.result.now c.deref-7.result.now c.run_placed-2.new.half c.deref-6.ensures.value (c.deref-7.ensures.0 ∙ value)
          c.run_placed-2.ensures.size c.run_placed-2.ensures.after;
    })

pub returns-clause-halves : goal.returns-clause-halves
returns-clause-halves g c =
    let j = arc_value c.args.job.now in
    let one : IsStart One j c.in_ok-one.one = subst (λ (k : Job). IsStart One k c.in_ok-one.one) c.deref.ensures c.in_ok-one.ensures in
    let two : IsStart Two j c.in_ok-two.two = subst (λ (k : Job). IsStart Two k c.in_ok-two.two) c.deref-2.ensures c.in_ok-two.ensures in
    let value : c.prefix_digits-digits.result.items ≡ prefix_digits j c.args.prefix = c.prefix_digits-digits.ensures.value ∙ ap (λ (k : Job). prefix_digits k c.args.prefix) c.deref-3.ensures in
    let same : arc_value c.in_ok-shared.shared ≡ j = search rules in
    subst (λ (k : Job). IsCheckpoint (record { job = k; prefix = c.args.prefix; one = c.run_placed.new.half; two = c.run_placed-2.new.half })) (sym same) (record {
      below = c.requires;
      one = at_prefix One j c.in_ok-one.one one c.args.prefix c.deref-4.result.now c.deref-5.result.now c.run_placed.new.half c.deref-4.ensures.value (c.deref-5.ensures.0 ∙ value)
          c.run_placed.ensures.size c.run_placed.ensures.after;
      two = at_prefix Two j c.in_ok-two.two two c.args.prefix c.deref-6.result.now c.deref-7.result.now c.run_placed-2.new.half c.deref-6.ensures.value (c.deref-7.ensures.0 ∙ value)
          c.run_placed-2.ensures.size c.run_placed-2.ensures.after;
    })

pub returns-clause-steps : goal.returns-clause-steps
returns-clause-steps g c =
    let j = arc_value c.args.job.now in
    let one : IsStart One j c.in_ok-one.one = subst (λ (k : Job). IsStart One k c.in_ok-one.one) c.deref.ensures c.in_ok-one.ensures in
    let two : IsStart Two j c.in_ok-two.two = subst (λ (k : Job). IsStart Two k c.in_ok-two.two) c.deref-2.ensures c.in_ok-two.ensures in
    let a : length c.deref-4.result.now ≡ count_by (acts_in (in_part One j)) (stage_gates Prefix j) = ap length c.deref-4.ensures.value ∙ start_steps One j c.in_ok-one.one one in
    let b : length c.deref-6.result.now ≡ count_by (acts_in (in_part Two j)) (stage_gates Prefix j) = ap length c.deref-6.ensures.value ∙ start_steps Two j c.in_ok-two.two two in
    let s = c.run_placed.ensures.step in
    let t = c.run_placed-2.ensures.step in
    omega arith
