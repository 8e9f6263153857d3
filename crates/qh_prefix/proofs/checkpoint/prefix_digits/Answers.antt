use Rattle.std.proofs.Common.{◌≡◌, ◌*◌, ◌/◌, ◌<◌, take, sym, ap, subst, ◌∙◌}
use Rattle.std.proofs.Math.Path.{ap₂}
use Rattle.std.specs.List.{AllZip}
use Rattle.qh_plan.specs.Jobs.{paths, digits_of, job_radices}
use Rattle.qh_prefix.specs.declared.stage.Stage.TheVariants.{Prefix}
use Rattle.qh_prefix.proofs.StageLemmas.{stretch_below}
use Rattle.qh_prefix.proofs.DigitLemmas.{share, share_is, path_below, first_of_prefix}
use Rattle.qh_prefix.proofs.checkpoint.prefix_digits.Goals as goal

pub digits-digits-requires : goal.digits-digits-requires
digits-digits-requires c =
    let j = c.args.job.now in
    let e : c.paths.result / c.prefixes.result ≡ share j = ap₂ (λ a b. a / b) c.paths.ensures.value c.prefixes.ensures ∙ share_is j c.paths.ensures.valid in
    subst (λ n. c.args.prefix * n < paths j) (sym e) (path_below j c.paths.ensures.valid c.args.prefix c.requires)

pub returns-clause-value : goal.returns-clause-value
returns-clause-value c =
    let j = c.args.job.now in
    let e : c.paths.result / c.prefixes.result ≡ share j = ap₂ (λ a b. a / b) c.paths.ensures.value c.prefixes.ensures ∙ share_is j c.paths.ensures.valid in
    c.truncate.ensures.items ∙ ap₂ (λ n ds. take n ds) c.split.ensures.prefix (c.digits-digits.ensures.value ∙ ap (λ n. digits_of j (c.args.prefix * n)) e)
    ∙ first_of_prefix j c.paths.ensures.valid c.args.prefix c.requires

pub returns-clause-below : goal.returns-clause-below
returns-clause-below c =
    let j = c.args.job.now in
    subst (λ ds. AllZip (λ d r. d < r) ds (take j.p (job_radices j))) (sym (c.truncate.ensures.items ∙ ap (λ n. take n c.digits-digits.result.items) c.split.ensures.prefix))
    (stretch_below Prefix j c.digits-digits.result.items c.digits-digits.ensures.below)
