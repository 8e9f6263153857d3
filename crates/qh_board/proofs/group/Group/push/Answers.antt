use Rattle.std.proofs.Common.{◌≡◌, ◌+◌, ◌∷◌, ◌++◌, [], length, Some, ap, sym, ◌∙◌, length-append, arith}
use Rattle.qh_board.specs.Groups.{results_in}
use Rattle.qh_board.proofs.GroupLemmas.{results_in-push}
use Rattle.qh_board.proofs.group.Group.push.Goals as goal

pub invariant_of-self : goal.invariant_of-self
invariant_of-self c =
    ap (λ l. length (results_in l)) c.push.ensures.items ∙ ap length (results_in-push c.self.inside.results.items c.args.outcome)
    ∙ length-append (results_in c.self.inside.results.items) (c.args.outcome ∷ [])
    ∙ ap (λ n. n + 1) c.self.invariant
    ∙ sym (ap length c.push.ensures.items ∙ length-append c.self.inside.results.items (Some c.args.outcome ∷ []))

pub returns : goal.returns
returns c = ap results_in c.push.ensures.items ∙ results_in-push c.self.inside.results.items c.args.outcome ∙ ap (λ l. l ++ c.args.outcome ∷ []) c.self.view_is
