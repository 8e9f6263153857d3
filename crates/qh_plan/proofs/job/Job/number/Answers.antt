use Rattle.std.proofs.Common.{ap, ◌∙◌}
use Rattle.qh_plan.specs.Paths.{path_digits, path_number}
use Rattle.qh_plan.specs.Jobs.{job_radices}
use Rattle.qh_plan.proofs.DigitLemmas.{number_below, digits_of_number}
use Rattle.qh_plan.proofs.job.Job.number.Goals as goal

pub returns-clause-below : goal.returns-clause-below
returns-clause-below c =
    let j = c.args.self.now in
    let e = c.path_number.ensures ∙ ap (λ rs. path_number rs c.args.digits.now) (c.as_slice.ensures.value ∙ c.self.invariant.radices_are ∙ ap job_radices c.self.view_is) in
    rw e (number_below (job_radices j) c.args.digits.now c.requires)

pub returns-clause-back : goal.returns-clause-back
returns-clause-back c =
    let j = c.args.self.now in
    let e = c.path_number.ensures ∙ ap (λ rs. path_number rs c.args.digits.now) (c.as_slice.ensures.value ∙ c.self.invariant.radices_are ∙ ap job_radices c.self.view_is) in
    ap (path_digits (job_radices j)) e ∙ digits_of_number (job_radices j) c.args.digits.now c.requires
