use Rattle.std.proofs.Common.{◌<◌, sym, ap, subst, ◌∙◌}
use Rattle.std.specs.List.{AllZip}
use Rattle.qh_plan.specs.Paths.{path_digits, path_number}
use Rattle.qh_plan.specs.Jobs.{job_radices}
use Rattle.qh_plan.proofs.DigitLemmas.{digits_below, number_of_digits}
use Rattle.qh_plan.proofs.job.Job.digits.Goals as goal

pub returns-clause-below : goal.returns-clause-below
returns-clause-below c =
    let j = c.args.self.now in
    let e = c.path_digits.ensures ∙ ap (λ rs. path_digits rs c.args.path) (c.as_slice.ensures.value ∙ c.self.invariant.radices_are ∙ ap job_radices c.self.view_is) in
    subst (λ ds. AllZip (λ d r. d < r) ds (job_radices j)) (sym e) (digits_below (job_radices j) c.args.path c.requires)

pub returns-clause-back : goal.returns-clause-back
returns-clause-back c =
    let j = c.args.self.now in
    let e = c.path_digits.ensures ∙ ap (λ rs. path_digits rs c.args.path) (c.as_slice.ensures.value ∙ c.self.invariant.radices_are ∙ ap job_radices c.self.view_is) in
    ap (path_number (job_radices j)) e ∙ number_of_digits (job_radices j) c.args.path c.requires
