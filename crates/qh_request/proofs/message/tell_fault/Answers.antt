use Rattle.std.proofs.Common.{◌++◌, append_assoc, codes, sym, ap, subst, ◌∙◌}
use Rattle.std.specs.Io.KnownBytes.{Appends}
use Rattle.qh_planner.specs.Spelling.{fault_name, fault_number, number_word}
use Rattle.qh_request.specs.Stops.{Says}
use Rattle.qh_request.proofs.Saying.{says_append, says_stop}
use Rattle.qh_request.proofs.message.tell_fault.Goals as goal

pub returns-then-not-say : goal.returns-then-not-say
returns-then-not-say g c =
    let rest = number_word (fault_number c.args.fault) ++ codes "\n" in
    let named = subst (Says _) (c.as_bytes-bytes.ensures.value ∙ c.fault_name-name.ensures) c.say.ensures.says in
    subst (Says _) (sym (append_assoc (fault_name c.args.fault) (number_word (fault_number c.args.fault)) (codes "\n")))
    (says_stop _ _ _ _ _ rest named (c.say.ensures.cause c.if-not-say.true))

pub returns : goal.returns
returns g c =
    let named = subst (Appends (g.E.Sink.held c.args.err.now) (g.E.Sink.held c.say.new.err)) (c.as_bytes-bytes.ensures.value ∙ c.fault_name-name.ensures)
    (c.say.ensures.whole c.if-not-say.false) in
    let numbered = subst (Says _) (ap (λ o. number_word o ++ codes "\n") c.in-Some.ensures) c.say_number.ensures in
    subst (Says _) (sym (append_assoc (fault_name c.args.fault) (number_word (fault_number c.args.fault)) (codes "\n")))
    (says_append _ _ _ _ _ _ _ _ c.say.ensures.says.later named numbered)
