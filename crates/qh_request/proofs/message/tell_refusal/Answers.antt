use Rattle.std.proofs.Common.{sym, ap, ◌∙◌, ◌++◌, subst, decimal, codes}
use Rattle.qh_request.specs.Stops.{Says, refusal_line}
use Rattle.qh_request.proofs.message.tell_refusal.Goals as goal

pub returns-in-CircuitTooLong : goal.returns-in-CircuitTooLong
returns-in-CircuitTooLong g c = subst (Says _) (c.as_bytes.ensures.value ∙ sym (ap refusal_line c.in-CircuitTooLong.is)) c.say.ensures.says

pub returns-in-CircuitLine : goal.returns-in-CircuitLine
returns-in-CircuitLine g c =
    subst (Says _) (ap (λ t. codes "refused: circuit line " ++ decimal c.in-CircuitLine.line ++ t) c.circuit_why_text.ensures ∙ sym (ap refusal_line c.in-CircuitLine.is)) c.say_number.ensures

pub returns-in-BitsTooLong : goal.returns-in-BitsTooLong
returns-in-BitsTooLong g c = subst (Says _) (c.as_bytes-in-BitsTooLong.ensures.value ∙ sym (ap refusal_line c.in-BitsTooLong.is)) c.say-in-BitsTooLong.ensures.says

pub returns-in-BitsLine : goal.returns-in-BitsLine
returns-in-BitsLine g c =
    subst (Says _) (ap (λ t. codes "refused: bitstrings line " ++ decimal c.in-BitsLine.line ++ t) c.bits_why_text.ensures ∙ sym (ap refusal_line c.in-BitsLine.is)) c.say_number-in-BitsLine.ensures

pub returns-in-Plan : goal.returns-in-Plan
returns-in-Plan g c = subst (Says _) (sym (ap refusal_line c.in-Plan.is)) c.tell_plan.ensures

pub returns-in-ProbTooDeep : goal.returns-in-ProbTooDeep
returns-in-ProbTooDeep g c = subst (Says _) (sym (ap refusal_line c.in-ProbTooDeep.is)) c.say_number-in-ProbTooDeep.ensures

pub returns-in-NoCut : goal.returns-in-NoCut
returns-in-NoCut g c = subst (Says _) (c.as_bytes-in-NoCut.ensures.value ∙ sym (ap refusal_line c.in-NoCut.is)) c.say-in-NoCut.ensures.says
