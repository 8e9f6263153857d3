use Rattle.std.proofs.Common.{◌≡◌, ◌+◌, ◌<◌, ◌∷◌, [], length, take, drop, arith, sym, ap, subst, ◌∙◌, add-one}
use Rattle.std.proofs.lemmas.List.{take_rest}
use Rattle.qh_plan.specs.Items.{items_of}
use Rattle.qh_plan.proofs.ItemLemmas.{NoComma, last_item, next_item}
use Rattle.qh_plan.proofs.part.first_item.Goals as goal

pub returns-then-at-text-clause-head : goal.returns-then-at-text-clause-head
returns-then-at-text-clause-head c =
    ([], last_item c.args.text.now (subst (NoComma c.args.text.now) c.if-at-text.true c.find-at.ensures.before))

pub returns-then-at-text-clause-last : goal.returns-then-at-text-clause-last
returns-then-at-text-clause-last c =
    last_item c.args.text.now (subst (NoComma c.args.text.now) c.if-at-text.true c.find-at.ensures.before)

pub returns-clause-head : goal.returns-clause-head
returns-clause-head c =
    let text = c.args.text.now in
    let at = c.find-at.result in
    let l : at < length text = let w = c.find-at.ensures.within in let n = c.if-at-text.false in omega arith in
    (items_of (drop (at + 1) text), rw add-one (next_item text at l c.find-at.ensures.before (c.find-at.ensures.found l)))

pub returns-clause-more : goal.returns-clause-more
returns-clause-more c =
    let text = c.args.text.now in
    let at = c.find-at.result in
    let l : at < length text = let w = c.find-at.ensures.within in let n = c.if-at-text.false in omega arith in
    let e : items_of text ≡ take at text ∷ items_of (drop (at + 1) text) = rw add-one (next_item text at l c.find-at.ensures.before (c.find-at.ensures.found l)) in
    e ∙ ap (λ x. take at text ∷ items_of x) (sym (take_rest text (at + 1)))
