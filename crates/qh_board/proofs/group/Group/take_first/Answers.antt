use Rattle.std.proofs.Common.{◌≡◌, ◌<◌, [], length, Option, Some, sym, ◌∙◌, subst, rules, arith}
use Rattle.std.specs.Option.{IfNone}
use Rattle.std.proofs.lemmas.Grind.{common_steps}
use Rattle.qh_range.specs.Results.{RangeResult}
use Rattle.qh_board.specs.Groups.{AreResults}
use Rattle.qh_board.proofs.GroupLemmas.{first_is}
use Rattle.qh_board.proofs.group.Group.take_first.Goals as goal

pub invariant_of-self : goal.invariant_of-self
invariant_of-self c =
    let some : 0 < length c.self.inside.results.items = grind (arith, common_steps) in
    subst AreResults (sym c.remove.ensures.items) (first_is c.self.inside.results.items c.self.invariant some).3

pub returns-clause-none : goal.returns-clause-none
returns-clause-none c =
    let some : 0 < length c.self.inside.results.items = grind (arith, common_steps) in
    let first = first_is c.self.inside.results.items c.self.invariant some in
    subst (λ (o : Option RangeResult). IfNone o (c.args.self.now ≡ [])) (sym (c.remove.ensures.value ∙ first.1 c.remove.result)) tt
