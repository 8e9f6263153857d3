use Rattle.std.proofs.Common.{arith, ◌≡◌, ◌≤◌, ap, subst, ◌∙◌}
use Rattle.std.specs.Arc.{arc_value}
use Rattle.qh_plan.specs.Jobs.{IsJob, ranges}
use Rattle.qh_range.proofs.TotalLemmas.{whole, whole_within}
use Rattle.qh_range.proofs.total.add_ranges.Goals as goal

pub returns-clause-whole : goal.returns-clause-whole
returns-clause-whole g c none =
    let j = arc_value c.args.job.now in
    let n = c.loop-range.range in
    let count : c.ranges-range-end.result ≡ ranges j = c.ranges-range-end.ensures.value ∙ ap ranges c.deref.ensures in
    let at_end : n ≡ c.ranges-range-end.result = omega (arith, c.loop-range-test.false, c.loop-range.auto.range-end) in
    whole j n c.loop-range.sums (at_end ∙ count) c.loop-range.invariant.total

pub returns-clause-within : goal.returns-clause-within
returns-clause-within g c none =
    let j = arc_value c.args.job.now in
    let n = c.loop-range.range in
    let count : c.ranges-range-end.result ≡ ranges j = c.ranges-range-end.ensures.value ∙ ap ranges c.deref.ensures in
    let within : n ≤ c.ranges-range-end.result = omega (arith, c.loop-range-test.false, c.loop-range.auto.range-end) in
    whole_within j n c.loop-range.sums (subst IsJob c.deref.ensures c.ranges-range-end.ensures.valid) (subst (λ m. n ≤ m) count within) c.loop-range.invariant.total
