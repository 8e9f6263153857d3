use Rattle.std.proofs.Common.{arith, ◌≡◌, ◌≤◌, length, sym, ap, ◌∙◌}
use Rattle.std.proofs.Math.Path.{ap₂}
use Rattle.qh_ring.specs.declared.number.Omega.{Omega}
use Rattle.qh_plan.specs.declared.verdict.Verdict.TheVariants.{Sum, Over}
use Rattle.qh_plan.specs.Jobs.{ranges}
use Rattle.qh_range.specs.Results.{Ticket}
use Rattle.qh_plan.specs.Values.{range_value}
use Rattle.qh_range.proofs.RunLemmas.{run_over}
use Rattle.qh_range.proofs.TotalLemmas.{as_many, whole_within}
use Rattle.qh_range.proofs.total.add_range.Goals as goal

pub add_all-requires-clause-even : goal.add_all-requires-clause-even
add_all-requires-clause-even g c =
    let j = c.args.job.now in
    let i = c.args.range in
    let here : c.in_ok-result.result.verdict ≡ range_value j i = c.in_ok-result.ensures.value ∙ ap₂ range_value c.requires.room (ap (λ (t : Ticket). t.range) c.new.ensures) in
    let sums : range_value j i ≡ Sum c.in-Sum.more = sym here ∙ sym c.into_verdict.ensures.verdict ∙ c.in-Sum.is in
    as_many j i c.args.sums.now c.in-Sum.more c.requires.total sums ∙ sym (ap (length {A = Omega}) c.values.ensures.value)

pub add_all-requires-clause-sums : goal.add_all-requires-clause-sums
add_all-requires-clause-sums g c =
    let within : c.args.range ≤ ranges c.args.job.now = omega (arith, c.requires.below) in
    whole_within c.args.job.now c.args.range c.args.sums.now c.requires.valid within c.requires.total

pub returns-in-Over-clause-over : goal.returns-in-Over-clause-over
returns-in-Over-clause-over g c =
    let j = c.args.job.now in
    let i = c.args.range in
    let here : c.in_ok-result.result.verdict ≡ range_value j i = c.in_ok-result.ensures.value ∙ ap₂ range_value c.requires.room (ap (λ (t : Ticket). t.range) c.new.ensures) in
    let over : range_value j i ≡ Over c.in-Over.path = sym here ∙ sym c.into_verdict.ensures.verdict ∙ c.in-Over.is in
    run_over j i c.in-Over.path c.args.sums.now c.requires.below c.requires.total over
