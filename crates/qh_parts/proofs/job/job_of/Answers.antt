use Rattle.std.proofs.Common.{◌≡◌, ℕ, List, Err, true, false, not, sym, ap, ◌∙◌, arith}
use Rattle.std.proofs.lemmas.Slice.Eq.{bytes_eq-Decides}
use Rattle.qh_plan.specs.Jobs.{Job}
use Rattle.qh_slots.specs.Layout.{head}
use Rattle.qh_parts.proofs.HeadLemmas.{text_of}
use Rattle.qh_parts.proofs.job.job_of.Goals as goal

pub returns-in-Err-NotOne-clause-fault : goal.returns-in-Err-NotOne-clause-fault
returns-in-Err-NotOne-clause-fault c j planned is = c.in-Err-NotOne.ensures.not_one (ap Err c.in-Err-NotOne.field-0-is) j planned (text_of j c.args.bytes.now is)

pub returns-then-ne-clause-fault : goal.returns-then-ne-clause-fault
returns-then-ne-clause-fault c j planned is =
    let same = c.in-Ok.ensures.alone j planned.valid (text_of j c.args.bytes.now is) in
    let e : c.as_slice.result.now ≡ c.args.bytes.now = c.as_slice.ensures.value ∙ c.in-Ok-head.ensures.head ∙ ap head (sym same) ∙ sym is in
    let wrong : true ≡ false = c.if-ne.ensures ∙ ap not ((bytes_eq-Decides c.as_slice.result.now c.args.bytes.now).1 e) in
    absurd cc
