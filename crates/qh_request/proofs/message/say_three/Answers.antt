use Rattle.std.proofs.Common.{append_assoc, sym, subst}
use Rattle.qh_request.specs.Stops.{Says}
use Rattle.qh_limits.proofs.Chains.{rose_before}
use Rattle.qh_request.proofs.Saying.{says_append, says_stop}
use Rattle.qh_request.proofs.message.say_three.Goals as goal

pub returns-then-not-say : goal.returns-then-not-say
returns-then-not-say g c =
    let rose = c.say.ensures.cause c.if-not-say.true in
    says_stop _ _ _ _ _ c.args.third.now (says_stop _ _ _ _ _ c.args.second.now c.say.ensures.says rose) rose

pub returns-then-not-say-2 : goal.returns-then-not-say-2
returns-then-not-say-2 g c =
    let rose = c.say-2.ensures.cause c.if-not-say-2.true in
    let two = says_append _ _ _ _ _ _ _ _ c.say.ensures.says.later (c.say.ensures.whole c.if-not-say.false) c.say-2.ensures.says in
    says_stop _ _ _ _ _ c.args.third.now two (rose_before _ _ _ c.say.ensures.says.later rose)

pub returns : goal.returns
returns g c =
    let two = says_append _ _ _ _ _ _ _ _ c.say-2.ensures.says.later (c.say-2.ensures.whole c.if-not-say-2.false) c.say-3.ensures.says in
    let all = says_append _ _ _ _ _ _ _ _ c.say.ensures.says.later (c.say.ensures.whole c.if-not-say.false) two in
    subst (Says _) (sym (append_assoc c.args.first.now c.args.second.now c.args.third.now)) all
