use Rattle.std.proofs.Common.{◌++◌, ℕ, List, decimal, append_assoc, subst, sym, ◌∙◌}
use Rattle.std.proofs.Math.Path.{ap₂}
use Rattle.std.specs.Io.KnownBytes.{Appends}
use Rattle.qh_io.specs.Saying.{Says}
use Rattle.qh_io.proofs.SayingLemmas.{says_append, says_stop}
use Rattle.qh_io.proofs.saying.say_number.Goals as goal

pub returns-then-not-say-clause-says : goal.returns-then-not-say-clause-says
returns-then-not-say-clause-says g c =
    subst (Says _) (sym (append_assoc c.args.before.now (decimal c.args.number) c.args.after.now))
    (says_stop _ _ _ _ _ (decimal c.args.number ++ c.args.after.now) (subst (Says _) c.as_bytes.ensures.value c.say.ensures.says) (c.say.ensures.cause c.if-not-say.true))

pub returns-clause-says : goal.returns-clause-says
returns-clause-says g c =
    subst (Says _) (sym (append_assoc c.args.before.now (decimal c.args.number) c.args.after.now))
    (says_append _ _ _ _ _ _ _ _ c.say.ensures.says.later
    (subst (Appends (g.E.Sink.held c.args.err.now) (g.E.Sink.held c.say.new.err)) c.as_bytes.ensures.value (c.say.ensures.whole c.if-not-say.false))
    (subst (Says _) (ap₂ (λ (x y : List ℕ). x ++ y) (c.as_bytes-2.ensures.value ∙ c.format.ensures.text) c.as_bytes-3.ensures.value) c.say_both.ensures.says))
