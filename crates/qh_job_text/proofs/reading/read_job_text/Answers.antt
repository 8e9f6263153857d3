use Rattle.std.proofs.Common.{◌≡◌, ◌≢◌, Option, Some, None, Result, Err, sym, ap, ◌∙◌}
use Rattle.std.proofs.lemmas.Slice.Eq.{slice_eq-Decides}
use Rattle.std.proofs.lemmas.Bool.{false≢true}
use Rattle.std.proofs.lemmas.Bool.Decides.{Decides-eqb}
use Rattle.qh_plan.specs.declared.fault.PlanFault.{PlanFault}
use Rattle.qh_plan.specs.declared.fault.PlanFault.TheVariants.{Memory as PlanMemory}
use Rattle.qh_job_text.specs.declared.fault.JobTextFault.{JobTextFault}
use Rattle.qh_job_text.specs.declared.fault.JobTextFault.TheVariants.{NotOne, Memory}
use Rattle.qh_plan.specs.Texts.{job_text}
use Rattle.qh_job_text.specs.Readings.{text_fault}
use Rattle.qh_plan.proofs.OneTextLemmas.{one_job}
use Rattle.qh_job_text.proofs.AcceptLemmas.{fault_of_parts, job_of_parts}
use Rattle.qh_job_text.proofs.reading.read_job_text.Goals as goal

same_err : {A : Type 0} (f g : JobTextFault) → ◌≡◌ {A = Result A JobTextFault} (Err f) (Err g) → f ≡ g
same_err f g e = cc

memory_apart : Memory ≡ NotOne → ⊥
memory_apart e = (cc)

not_memory : (f : PlanFault) → text_fault f ≡ NotOne → f ≢ PlanMemory
not_memory f e m = memory_apart (sym (ap text_fault m) ∙ e)

none_some : (f : PlanFault) → ◌≡◌ {A = Option PlanFault} None (Some f) → ⊥
none_some f e = (cc)

pub returns-in-Err-plan : goal.returns-in-Err-plan
returns-in-Err-plan c = record {
  text = tt;
  planned = tt;
  alone = tt;
  not_one = λ not_one j h e.
      let a = c.in-Ok.ensures j h e in
      let other = not_memory c.in-Err-plan.fault (sym c.text_fault.ensures ∙ same_err c.text_fault.result NotOne not_one) in
      let none = fault_of_parts j c.in-Ok.parts.circuit c.deref-2.result.now c.in-Ok.parts.split.0 c.in-Ok.parts.split.1 c.in-Ok.parts.prefix c.in-Ok.parts.bits.items
      a.circuit (c.deref-2.ensures.value ∙ a.part) a.first a.second a.prefix a.bits h in
      none_some c.in-Err-plan.fault (sym none ∙ c.in-Err-plan.ensures.refused other);
}

pub returns-clause-not_one : goal.returns-clause-not_one
returns-clause-not_one c = λ _ j h e.
    let a = c.in-Ok.ensures j h e in
    let made = c.in-Ok-plan.ensures.job ∙ job_of_parts j c.in-Ok.parts.circuit c.deref-2.result.now c.in-Ok.parts.split.0 c.in-Ok.parts.split.1 c.in-Ok.parts.prefix c.in-Ok.parts.bits.items
    a.circuit (c.deref-2.ensures.value ∙ a.part) a.first a.second a.prefix a.bits h in
    let same = c.text.ensures.value ∙ ap job_text made ∙ sym e in
    let yes = (slice_eq-Decides Decides-eqb c.text.result.now c.args.bytes.now c.eq.result c.eq.ensures).1 same in
    absurd (false≢true (sym c.if-eq.false ∙ yes))

pub returns-then-eq-clause-alone : goal.returns-then-eq-clause-alone
returns-then-eq-clause-alone c = λ k hk e.
    let same = (slice_eq-Decides Decides-eqb c.text.result.now c.args.bytes.now c.eq.result c.eq.ensures).0 c.if-eq.true in
    one_job k c.in-Ok-plan.job hk c.text.ensures.planned.valid (sym e ∙ sym same ∙ c.text.ensures.value)
