use Rattle.std.proofs.Common.{arith, ◌≡◌, ◌<◌, sym, ap, subst, ◌∙◌}
use Rattle.std.specs.List.{AllZip}
use Rattle.qh_plan.specs.Jobs.{paths, first_path, digits_of}
use Rattle.qh_prefix.specs.declared.part.Part.TheVariants.{One, Two}
use Rattle.qh_prefix.specs.declared.stage.Stage.TheVariants.{Root}
use Rattle.qh_prefix.specs.Stages.{stretch, stage_radices}
use Rattle.qh_prefix.proofs.StageLemmas.{stretch_below}
use Rattle.qh_range.specs.Sides.{root_digits}
use Rattle.qh_range.proofs.RootLemmas.{path_below, root_same, first_in_range}
use Rattle.qh_range.proofs.SideLemmas.{takes_root, at_root, root_steps}
use Rattle.qh_range.proofs.evaluation.go_to_root.Goals as goal

pub digits-path_digits-requires : goal.digits-path_digits-requires
digits-path_digits-requires g c =
    let j = c.args.job.now in
    subst (λ n. n < paths j) (sym c.first_path.ensures.value)
    (path_below j c.requires.valid c.args.range (first_path j c.args.range) c.requires.below (first_in_range j c.requires.valid c.args.range))

pub run_root-requires-clause-path : goal.run_root-requires-clause-path
run_root-requires-clause-path g c =
    let j = c.args.job.now in
    let below = stretch_below Root j c.digits-path_digits.result.items c.digits-path_digits.ensures.below in
    let e : c.stage_digits-digits.result.now ≡ stretch Root j c.digits-path_digits.result.items = c.stage_digits-digits.ensures ∙ ap (stretch Root j) c.deref.ensures.0 in
    takes_root One j c.args.one.now c.requires.one c.stage_digits-digits.result.now c.requires.valid (subst (λ ds. AllZip (λ d r. d < r) ds (stage_radices Root j)) (sym e) below)

pub run_root-requires-2-clause-path : goal.run_root-requires-2-clause-path
run_root-requires-2-clause-path g c =
    let j = c.args.job.now in
    let below = stretch_below Root j c.digits-path_digits.result.items c.digits-path_digits.ensures.below in
    let e : c.stage_digits-digits.result.now ≡ stretch Root j c.digits-path_digits.result.items = c.stage_digits-digits.ensures ∙ ap (stretch Root j) c.deref.ensures.0 in
    takes_root Two j c.args.two.now c.requires.two c.stage_digits-digits.result.now c.requires.valid (subst (λ ds. AllZip (λ d r. d < r) ds (stage_radices Root j)) (sym e) below)

pub returns-clause-one_root : goal.returns-clause-one_root
returns-clause-one_root g c =
    let j = c.args.job.now in
    let e : c.stage_digits-digits.result.now ≡ root_digits j c.args.range =
    c.stage_digits-digits.ensures ∙ ap (stretch Root j) (c.deref.ensures.0 ∙ c.digits-path_digits.ensures.value ∙ ap (digits_of j) c.first_path.ensures.value)
    ∙ root_same j c.requires.valid c.args.range (first_path j c.args.range) c.requires.below (first_in_range j c.requires.valid c.args.range) in
    at_root One j c.args.one.now c.requires.one c.args.range c.args.from.0.now c.stage_digits-digits.result.now c.run_root.new.side.root.numbers c.requires.one_from e c.run_root.ensures.after

pub returns-clause-two_root : goal.returns-clause-two_root
returns-clause-two_root g c =
    let j = c.args.job.now in
    let e : c.stage_digits-digits.result.now ≡ root_digits j c.args.range =
    c.stage_digits-digits.ensures ∙ ap (stretch Root j) (c.deref.ensures.0 ∙ c.digits-path_digits.ensures.value ∙ ap (digits_of j) c.first_path.ensures.value)
    ∙ root_same j c.requires.valid c.args.range (first_path j c.args.range) c.requires.below (first_in_range j c.requires.valid c.args.range) in
    at_root Two j c.args.two.now c.requires.two c.args.range c.args.from.1.now c.stage_digits-digits.result.now c.run_root-2.new.side.root.numbers c.requires.two_from e c.run_root-2.ensures.after

pub returns-clause-steps : goal.returns-clause-steps
returns-clause-steps g c =
    let a = root_steps One c.args.job.now c.args.one.now c.requires.one in
    let b = root_steps Two c.args.job.now c.args.two.now c.requires.two in
    let s = c.run_root.ensures.step in
    let t = c.run_root-2.ensures.step in
    omega arith
