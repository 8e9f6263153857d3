use Rattle.std.proofs.Common.{◌≡◌, sym, ap, subst, ◌∙◌}
use Rattle.std.proofs.lemmas.Slice.Eq.{slice_eq-Decides}
use Rattle.std.proofs.lemmas.Bool.Decides.{Decides-eqb}
use Rattle.qh_plan.specs.Jobs.{IsJob}
use Rattle.qh_plan.specs.Texts.{job_text}
use Rattle.qh_plan.proofs.OneTextLemmas.{one_job}
use Rattle.qh_plan.proofs.job.Job.same.Goals as goal

pub returns-clause-same : goal.returns-clause-same
returns-clause-same c =
    let decides = slice_eq-Decides Decides-eqb c.as_slice.result.now c.as_slice-2.result.now c.eq.result c.eq.ensures in
    let mine : c.as_slice.result.now ≡ job_text c.args.self.now = c.as_slice.ensures.value ∙ c.self.invariant.text_is ∙ ap job_text c.self.view_is in
    let its : c.as_slice-2.result.now ≡ job_text c.args.other.now = c.as_slice-2.ensures.value ∙ c.other.invariant.text_is ∙ ap job_text c.other.view_is in
    let is_job = subst IsJob c.self.view_is c.self.invariant.planned.valid in
    let other_is_job = subst IsJob c.other.view_is c.other.invariant.planned.valid in
    (λ yes. one_job c.args.self.now c.args.other.now is_job other_is_job (sym mine ∙ decides.0 yes ∙ its), λ e. decides.1 (mine ∙ ap job_text e ∙ sym its))
