use Rattle.std.proofs.Common.{◌≡◌, ◌<◌, [], ◌∷◌, length, Some, None, arith, sym, subst}
use Rattle.qh_plan.specs.Items.{items_of, number_at, IsFirstBad}
use Rattle.qh_plan.proofs.ItemLemmas.{first_bad, read_more}
use Rattle.qh_plan.proofs.part.read_part.Goals as goal

pub returns-in_default-clause-refused : goal.returns-in_default-clause-refused
returns-in_default-clause-refused c = λ _.
    let head = c.first_item.ensures.head in
    let bad : number_at (c.first_item.result.0.now ∷ []) 0 ≡ None = sym c.in_default.ensures.computed in
    let fits : (c.len.result < 4294967296) × (c.in-Ok.item ≡ c.len.result) = c.in-Ok.ensures in
    let index : c.in-Ok.item ≡ length c.loop-number.numbers.items = omega (arith, fits.1, c.len.ensures, c.loop-number.numbers.ok.0) in
    subst (IsFirstBad (items_of c.args.text.now)) (sym index) (first_bad c.args.text.now c.loop-number.rest.now c.loop-number.numbers.items c.first_item.result.0.now head.0 c.loop-number.invariant head.1 bad)

pub loop-number-preserved : goal.loop-number-preserved
loop-number-preserved c =
    let item = c.first_item.result.0.now in
    let more : items_of c.loop-number.rest.now ≡ item ∷ items_of c.in-Some-more.behind.now = rw c.in-Some-more.is at c.first_item.ensures.more in
    let number : number_at (item ∷ []) 0 ≡ Some c.in-Some.number = sym c.in-Some.ensures.computed in
    read_more c.args.text.now c.loop-number.rest.now c.in-Some-more.behind.now c.loop-number.numbers.items item c.push.new.self.items c.in-Some.number
    c.loop-number.invariant more number c.in-Ok-push.ensures.items
