use Rattle.std.proofs.Common.{arith, ◌≡◌, ℕ, ◌<◌, ◌≤◌, length, slice_index_or, sym, ap, subst, ◌∙◌, Bool}
use Rattle.std.proofs.Math.Path.{ap₂}
use Rattle.qh_ring.specs.declared.number.Omega.{Omega}
use Rattle.qh_ring.specs.Numbers.{sum, product, IsWithin}
use Rattle.qh_plan.specs.Jobs.{Job}
use Rattle.qh_plan.specs.MeaningLimits.{are_narrow}
use Rattle.qh_plan.proofs.LimitLemmas.{narrow_from, not_narrow, product_within}
use Rattle.qh_prefix.specs.declared.part.Part.TheVariants as Parts
use Rattle.qh_range.specs.declared.side.Side.{Side}
use Rattle.qh_range.specs.Sides.{end_of, number_at}
use Rattle.qh_range.proofs.ProductLemmas.{added_more, added_all, added_fails, index_below, number_is}
use Rattle.qh_range.proofs.path.add_products.Goals as goal

abbrev product_of : Job → Side → Side → ℕ → Omega
product_of j one two b = product (number_at Parts.One j (end_of one).numbers b) (number_at Parts.Two j (end_of two).numbers b)

abbrev narrow_of : Job → Side → Side → ℕ → Bool
narrow_of j one two b = are_narrow (number_at Parts.One j (end_of one).numbers b) (number_at Parts.Two j (end_of two).numbers b)

pub number_at-x-requires-clause-index : goal.number_at-x-requires-clause-index
number_at-x-requires-clause-index c =
    let len = c.requires.same_length in
    let l : c.loop-i.i < length c.args.job.now.bits = let t = c.loop-i-test.true in omega arith in
    index_below Parts.One c.args.job.now c.args.one.now c.requires.one c.loop-i.i c.index.result.now l c.index.ensures

pub number_at-y-requires-clause-index : goal.number_at-y-requires-clause-index
number_at-y-requires-clause-index c =
    let len = c.requires.same_length in
    let l : c.loop-i.i < length c.args.job.now.bits = let t = c.loop-i-test.true in omega arith in
    index_below Parts.Two c.args.job.now c.args.two.now c.requires.two c.loop-i.i c.index-in-loop-i.result.now l c.index-in-loop-i.ensures

pub returns-in_default-clause-fits : goal.returns-in_default-clause-fits
returns-in_default-clause-fits c =
    let len = c.requires.same_length in
    let l : c.loop-i.i < length c.args.job.now.bits = let t = c.loop-i-test.true in omega arith in
    let x = number_is Parts.One c.args.job.now c.args.one.now c.requires.one c.loop-i.i c.index.result.now l c.index.ensures c.number_at-x.result c.number_at-x.ensures.value c.requires.one_held in
    let y = number_is Parts.Two c.args.job.now c.args.two.now c.requires.two c.loop-i.i c.index-in-loop-i.result.now l c.index-in-loop-i.ensures c.number_at-y.result c.number_at-y.ensures.value c.requires.two_held in
    added_fails (narrow_of c.args.job.now c.args.one.now c.args.two.now) c.args.job.now.bits c.loop-i.i l
    (ap₂ are_narrow (sym x) (sym y) ∙ not_narrow c.number_at-x.result c.number_at-y.result c.in_default.ensures)

pub add_bounded-requires-clause-y_within : goal.add_bounded-requires-clause-y_within
add_bounded-requires-clause-y_within c =
    subst (IsWithin 126) (sym c.in-Ok.ensures.1) (product_within c.number_at-x.result c.number_at-y.result c.in-Ok.ensures.0)

pub loop-i-preserved : goal.loop-i-preserved
loop-i-preserved c =
    let len = c.requires.same_length in
    let l : c.loop-i.i < length c.args.job.now.bits = let t = c.loop-i-test.true in omega arith in
    let x = number_is Parts.One c.args.job.now c.args.one.now c.requires.one c.loop-i.i c.index.result.now l c.index.ensures c.number_at-x.result c.number_at-x.ensures.value c.requires.one_held in
    let y = number_is Parts.Two c.args.job.now c.args.two.now c.requires.two c.loop-i.i c.index-in-loop-i.result.now l c.index-in-loop-i.ensures c.number_at-y.result c.number_at-y.ensures.value c.requires.two_held in
    let e : c.add_bounded.result ≡ sum (slice_index_or c.loop-i.sums c.loop-i.i _) c.in-Ok.product = c.add_bounded.ensures in
    added_more (product_of c.args.job.now c.args.one.now c.args.two.now) (narrow_of c.args.job.now c.args.one.now c.args.two.now)
    c.args.job.now.bits c.args.sums.now c.loop-i.i c.loop-i.sums _ (subst (λ n. c.loop-i.i < n) (sym c.loop-i.auto.sums) c.loop-i-test.true) c.requires.same_length c.loop-i.invariant
    (ap₂ are_narrow (sym x) (sym y) ∙ narrow_from c.number_at-x.result c.number_at-y.result c.in-Ok.ensures.0)
    (e ∙ ap (sum (slice_index_or c.loop-i.sums c.loop-i.i _)) (c.in-Ok.ensures.1 ∙ ap₂ product x y))

pub returns-clause-sums : goal.returns-clause-sums
returns-clause-sums c t =
    (added_all (product_of c.args.job.now c.args.one.now c.args.two.now) (narrow_of c.args.job.now c.args.one.now c.args.two.now)
    c.args.job.now.bits c.args.sums.now c.loop-i.i c.loop-i.sums (subst (λ n. n ≤ c.loop-i.i) (sym c.loop-i.auto.sums) c.loop-i-test.false) c.requires.same_length c.loop-i.invariant).1
