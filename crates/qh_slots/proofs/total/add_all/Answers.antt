use Rattle.std.proofs.Common.{◌<◌, length, sym, refl, ◌∙◌, arith}
use Rattle.std.proofs.lemmas.List.{ext_get_or}
use Rattle.qh_ring.specs.Numbers.{nothing}
use Rattle.qh_plan.specs.Verdicts.{added}
use Rattle.qh_plan.proofs.TotalLemmas.{length-added, at_added}
use Rattle.qh_slots.proofs.total.add_all.Goals as goal

pub returns : goal.returns
returns c =
    let old = c.args.sums.now in
    let more = c.args.more.now in
    ext_get_or nothing c.loop-i.sums (added old more) (c.loop-i.auto.sums ∙ sym (length-added old more (length old) refl (sym c.requires.even))) (λ k l.
    let below : k < length old = omega (arith, c.loop-i.auto.sums) in
    c.loop-i.invariant.done k (omega (arith, c.loop-i.auto.sums)) ∙ sym (at_added old more k c.requires.even below))
