use Rattle.std.proofs.Common.{arith, ◌≡◌, ◌<◌, refl, sym, ap, subst, ◌∙◌}
use Rattle.std.specs.List.{AllZip}
use Rattle.std.proofs.lemmas.Bool.{both_ways}
use Rattle.qh_plan.specs.Jobs.{digits_of}
use Rattle.qh_prefix.specs.declared.part.Part.TheVariants.{One, Two}
use Rattle.qh_prefix.specs.declared.stage.Stage.TheVariants.{Suffix}
use Rattle.qh_prefix.specs.Stages.{stretch, stage_radices}
use Rattle.qh_prefix.proofs.StageLemmas.{stretch_below}
use Rattle.qh_range.specs.Sides.{end_of}
use Rattle.qh_range.proofs.RootLemmas.{path_below}
use Rattle.qh_range.proofs.SideLemmas.{takes_suffix, holds, suffix_steps}
use Rattle.qh_range.proofs.PathLemmas.{over_half, held_half, not_first, not_second, fits_both, sums_both}
use Rattle.qh_range.proofs.path.add_path.Goals as goal

pub digits-path_digits-requires : goal.digits-path_digits-requires
digits-path_digits-requires g c =
    path_below c.args.job.now c.requires.valid c.args.range c.args.path c.requires.range c.requires.below

pub run_half-requires-clause-path : goal.run_half-requires-clause-path
run_half-requires-clause-path g c =
    let j = c.args.job.now in
    let valid = c.requires.valid in
    let below = stretch_below Suffix j c.digits-path_digits.result.items c.digits-path_digits.ensures.below in
    let e : c.stage_digits-digits.result.now ≡ stretch Suffix j c.digits-path_digits.result.items = c.stage_digits-digits.ensures ∙ ap (stretch Suffix j) c.deref.ensures.0 in
    takes_suffix One j c.args.one.now c.requires.one c.stage_digits-digits.result.now valid (subst (λ ds. AllZip (λ d r. d < r) ds (stage_radices Suffix j)) (sym e) below)

pub run_half-requires-2-clause-path : goal.run_half-requires-2-clause-path
run_half-requires-2-clause-path g c =
    let j = c.args.job.now in
    let valid = c.requires.valid in
    let below = stretch_below Suffix j c.digits-path_digits.result.items c.digits-path_digits.ensures.below in
    let e : c.stage_digits-digits.result.now ≡ stretch Suffix j c.digits-path_digits.result.items = c.stage_digits-digits.ensures ∙ ap (stretch Suffix j) c.deref.ensures.0 in
    takes_suffix Two j c.args.two.now c.requires.two c.stage_digits-digits.result.now valid (subst (λ ds. AllZip (λ d r. d < r) ds (stage_radices Suffix j)) (sym e) below)

pub returns-then-is_over-clause-fits : goal.returns-then-is_over-clause-fits
returns-then-is_over-clause-fits g c =
    let j = c.args.job.now in
    let e : c.stage_digits-digits.result.now ≡ stretch Suffix j (digits_of j c.args.path) =
    c.stage_digits-digits.ensures ∙ ap (stretch Suffix j) (c.deref.ensures.0 ∙ c.digits-path_digits.ensures.value) in
    not_first j c.args.path (over_half One j c.args.path (digits_of j c.args.path) (end_of c.run_half.new.side).numbers refl (holds One j c.args.one.now c.requires.one c.args.range c.args.path c.stage_digits-digits.result.now (end_of c.run_half.new.side).numbers c.requires.valid c.requires.range c.requires.below
    c.requires.one_root e c.run_half.ensures.after)
    (c.is_over.ensures.value.0 c.if-is_over.true))

pub returns-then-is_over-clause-steps : goal.returns-then-is_over-clause-steps
returns-then-is_over-clause-steps g c =
    let a = suffix_steps One c.args.job.now c.args.one.now c.requires.one in
    let s = c.run_half.ensures.step in
    omega arith

pub returns-then-is_over-2-clause-fits : goal.returns-then-is_over-2-clause-fits
returns-then-is_over-2-clause-fits g c =
    let j = c.args.job.now in
    let e : c.stage_digits-digits.result.now ≡ stretch Suffix j (digits_of j c.args.path) =
    c.stage_digits-digits.ensures ∙ ap (stretch Suffix j) (c.deref.ensures.0 ∙ c.digits-path_digits.ensures.value) in
    not_second j c.args.path (over_half Two j c.args.path (digits_of j c.args.path) (end_of c.run_half-2.new.side).numbers refl (holds Two j c.args.two.now c.requires.two c.args.range c.args.path c.stage_digits-digits.result.now (end_of c.run_half-2.new.side).numbers c.requires.valid c.requires.range c.requires.below
    c.requires.two_root e c.run_half-2.ensures.after)
    (c.is_over-2.ensures.value.0 c.if-is_over-2.true))

pub returns-then-is_over-2-clause-steps : goal.returns-then-is_over-2-clause-steps
returns-then-is_over-2-clause-steps g c =
    let a = suffix_steps One c.args.job.now c.args.one.now c.requires.one in
    let s = c.run_half.ensures.step in
    let b = suffix_steps Two c.args.job.now c.args.two.now c.requires.two in
    let t = c.run_half-2.ensures.step in
    omega arith

pub returns-clause-fits : goal.returns-clause-fits
returns-clause-fits g c =
    let j = c.args.job.now in
    let e : c.stage_digits-digits.result.now ≡ stretch Suffix j (digits_of j c.args.path) =
    c.stage_digits-digits.ensures ∙ ap (stretch Suffix j) (c.deref.ensures.0 ∙ c.digits-path_digits.ensures.value) in
    let x = held_half One j c.args.path (digits_of j c.args.path) (end_of c.run_half.new.side).numbers refl (holds One j c.args.one.now c.requires.one c.args.range c.args.path c.stage_digits-digits.result.now (end_of c.run_half.new.side).numbers c.requires.valid c.requires.range c.requires.below
    c.requires.one_root e c.run_half.ensures.after)
    (λ o. both_ways c.is_over.result c.if-is_over.false (c.is_over.ensures.value.1 o)) in
    let y = held_half Two j c.args.path (digits_of j c.args.path) (end_of c.run_half-2.new.side).numbers refl (holds Two j c.args.two.now c.requires.two c.args.range c.args.path c.stage_digits-digits.result.now (end_of c.run_half-2.new.side).numbers c.requires.valid c.requires.range c.requires.below
    c.requires.two_root e c.run_half-2.ensures.after)
    (λ o. both_ways c.is_over-2.result c.if-is_over-2.false (c.is_over-2.ensures.value.1 o)) in
    fits_both j c.args.path (end_of c.run_half.new.side).numbers (end_of c.run_half-2.new.side).numbers x.1 y.1 c.add_products.result x.0 y.0 c.add_products.ensures.fits

pub returns-clause-sums : goal.returns-clause-sums
returns-clause-sums g c =
    let j = c.args.job.now in
    let e : c.stage_digits-digits.result.now ≡ stretch Suffix j (digits_of j c.args.path) =
    c.stage_digits-digits.ensures ∙ ap (stretch Suffix j) (c.deref.ensures.0 ∙ c.digits-path_digits.ensures.value) in
    let x = held_half One j c.args.path (digits_of j c.args.path) (end_of c.run_half.new.side).numbers refl (holds One j c.args.one.now c.requires.one c.args.range c.args.path c.stage_digits-digits.result.now (end_of c.run_half.new.side).numbers c.requires.valid c.requires.range c.requires.below
    c.requires.one_root e c.run_half.ensures.after)
    (λ o. both_ways c.is_over.result c.if-is_over.false (c.is_over.ensures.value.1 o)) in
    let y = held_half Two j c.args.path (digits_of j c.args.path) (end_of c.run_half-2.new.side).numbers refl (holds Two j c.args.two.now c.requires.two c.args.range c.args.path c.stage_digits-digits.result.now (end_of c.run_half-2.new.side).numbers c.requires.valid c.requires.range c.requires.below
    c.requires.two_root e c.run_half-2.ensures.after)
    (λ o. both_ways c.is_over-2.result c.if-is_over-2.false (c.is_over-2.ensures.value.1 o)) in
    λ t. sums_both j c.args.path (end_of c.run_half.new.side).numbers (end_of c.run_half-2.new.side).numbers x.1 y.1 c.args.sums.now c.add_products.new.sums (c.add_products.ensures.sums t)

pub returns-clause-steps : goal.returns-clause-steps
returns-clause-steps g c =
    let a = suffix_steps One c.args.job.now c.args.one.now c.requires.one in
    let s = c.run_half.ensures.step in
    let b = suffix_steps Two c.args.job.now c.args.two.now c.requires.two in
    let t = c.run_half-2.ensures.step in
    omega arith
