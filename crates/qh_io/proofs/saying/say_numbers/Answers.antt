use Rattle.std.proofs.Common.{◌++◌, ◌∷◌, [], decimal, append_assoc, subst, sym}
use Rattle.qh_io.specs.Saying.{Says}
use Rattle.qh_io.proofs.SayingLemmas.{says_append, says_stop}
use Rattle.qh_io.proofs.saying.say_numbers.Goals as goal

pub returns-then-not-say_number-clause-says : goal.returns-then-not-say_number-clause-says
returns-then-not-say_number-clause-says g c =
    subst (Says _) (sym (append_assoc (c.args.before.now ++ decimal c.args.first ++ 32 ∷ []) (decimal c.args.second) (10 ∷ [])))
    (says_stop _ _ _ _ _ (decimal c.args.second ++ 10 ∷ []) c.say_number.ensures.says (c.say_number.ensures.cause c.if-not-say_number.true))

pub returns-clause-says : goal.returns-clause-says
returns-clause-says g c =
    subst (Says _) (sym (append_assoc (c.args.before.now ++ decimal c.args.first ++ 32 ∷ []) (decimal c.args.second) (10 ∷ [])))
    (says_append _ _ _ _ _ _ _ _ c.say_number.ensures.says.later (c.say_number.ensures.whole c.if-not-say_number.false) c.say_number-2.ensures.says)
