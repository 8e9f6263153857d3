use Rattle.std.proofs.Common.{sym, ap, ◌∙◌, ◌++◌, subst, codes}
use Rattle.qh_request.specs.Stops.{Says, attach_text, journal_line}
use Rattle.qh_request.proofs.message.tell_journal.Goals as goal

pub returns-in-OfOld : goal.returns-in-OfOld
returns-in-OfOld g c =
    subst (Says _) (ap (λ r. codes "old journal: " ++ attach_text r) c.attach_of.ensures ∙ sym (ap journal_line c.in-OfOld.is)) c.tell_attach-in-OfOld.ensures
