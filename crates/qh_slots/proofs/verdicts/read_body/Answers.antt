use Rattle.std.proofs.Common.{◌≡◌, ℕ, List, length, sym, ap, subst, ◌∙◌, Some}
use Rattle.qh_plan.specs.declared.verdict.Verdict.TheVariants.{Sum, Over}
use Rattle.qh_plan.specs.Ranges.{Fits}
use Rattle.qh_slots.specs.Slots.{over_bytes}
use Rattle.qh_slots.proofs.ReadLemmas.{only_sums, only_over, no_verdict}
use Rattle.qh_slots.proofs.verdicts.read_body.Goals as goal

pub returns-in-Some-clause-alone : goal.returns-in-Some-clause-alone
returns-in-Some-clause-alone c v is fit =
    let found = rw c.in-Some.is at c.in_ok-sums.ensures.found in
    let e : v ≡ Sum c.in-Some.sums = only_sums c.args.job.now c.bits-count.ensures.valid c.args.range c.requires.range c.args.bytes.now c.in_ok-sums.field-0 c.in-Some.sums c.in-Some.is found.0
    (λ s spells size within. c.in_ok-sums.ensures.alone s spells (size ∙ ap (λ (l : List ℕ). length l) (sym c.bits-count.ensures.value)) within) v is fit in
    c.fitting.ensures.all (subst (Fits c.args.job.now c.args.range) e fit) ∙ ap Some (sym e)

pub returns-in_default-read_over-clause-alone : goal.returns-in_default-read_over-clause-alone
returns-in_default-read_over-clause-alone c v is fit =
    absurd (no_verdict c.args.job.now c.bits-count.ensures.valid c.args.range c.requires.range c.args.bytes.now c.in_ok-sums.field-0 c.read_over.result c.in_default.is
    (λ s spells size within. c.in_ok-sums.ensures.alone s spells (size ∙ ap (λ (l : List ℕ). length l) (sym c.bits-count.ensures.value)) within)
    c.in_default-read_over.is
    (λ p low spells. c.read_over.ensures.alone p low (spells ∙ ap (λ (l : List ℕ). over_bytes (length l) p) (sym c.bits-count.ensures.value)))
    v is fit)

pub returns-clause-alone : goal.returns-clause-alone
returns-clause-alone c v is fit =
    let e : v ≡ Over c.in-Some-read_over.path = only_over c.args.job.now c.bits-count.ensures.valid c.args.range c.requires.range c.args.bytes.now c.in_ok-sums.field-0 c.read_over.result c.in-Some-read_over.path c.in_default.is
    (λ s spells size within. c.in_ok-sums.ensures.alone s spells (size ∙ ap (λ (l : List ℕ). length l) (sym c.bits-count.ensures.value)) within)
    c.in-Some-read_over.is
    (λ p low spells. c.read_over.ensures.alone p low (spells ∙ ap (λ (l : List ℕ). over_bytes (length l) p) (sym c.bits-count.ensures.value)))
    v is fit in
    c.fitting-2.ensures.all (subst (Fits c.args.job.now c.args.range) e fit) ∙ ap Some (sym e)
