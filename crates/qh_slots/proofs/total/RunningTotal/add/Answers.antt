use Rattle.std.proofs.Common.{rules, ◌≡◌, Some, length, All, sym, ap, subst, ◌∙◌}
use Rattle.std.proofs.Math.Path.{ap₂}
use Rattle.qh_ring.specs.declared.number.Omega.{Omega}
use Rattle.qh_ring.specs.Numbers.{IsWithin}
use Rattle.qh_plan.specs.declared.verdict.Verdict.{Verdict}
use Rattle.qh_plan.specs.declared.verdict.Verdict.TheVariants.{Sum}
use Rattle.qh_plan.specs.Verdicts.{added}
use Rattle.qh_plan.specs.Slots.{lesser, path_in, added_verdict}
use Rattle.qh_slots.specs.Running.{Running, IsNext}
use Rattle.qh_slots.proofs.RunningLemmas.{AreAddable, are_addable, no_path, total_more, written_whole}
use Rattle.qh_slots.proofs.total.RunningTotal.add.Goals as goal

pub add_all-requires-clause-even : goal.add_all-requires-clause-even
add_all-requires-clause-even c =
    let old = c.args.self.now in
    let next : IsNext c.args.job.now c.requires.slots c.args.range (Sum c.in-Sum.more) =
    subst (IsNext c.args.job.now c.requires.slots c.args.range) c.in-Sum.is c.requires.next in
    let can : AreAddable old.sums c.in-Sum.more =
    are_addable c.args.job.now c.requires.slots c.args.range old c.in-Sum.more c.ranges-2.ensures.valid c.requires.total next in
    ap (length {A = Omega}) (c.deref_mut.ensures.value ∙ ap (λ (t : Running). t.sums) c.self.view_is)
    ∙ can.even
    ∙ sym (ap (length {A = Omega}) c.values.ensures.value)

pub invariant_of-self : goal.invariant_of-self
invariant_of-self c =
    let old = c.args.self.now in
    let next : IsNext c.args.job.now c.requires.slots c.args.range (Sum c.in-Sum.more) =
    subst (IsNext c.args.job.now c.requires.slots c.args.range) c.in-Sum.is c.requires.next in
    let can : AreAddable old.sums c.in-Sum.more =
    are_addable c.args.job.now c.requires.slots c.args.range old c.in-Sum.more c.ranges-2.ensures.valid c.requires.total next in
    let sums : c.add_all.new.sums ≡ added old.sums c.in-Sum.more =
    c.add_all.ensures ∙ ap₂ added (c.deref_mut.ensures.value ∙ ap (λ (t : Running). t.sums) c.self.view_is) c.values.ensures.value in
    subst (All (IsWithin 126))
    (sym (written_whole c.self.inside.sums.len c.add_all.new.sums c.self.inside.sums.items (search rules) (search rules) ∙ sums))
    can.within

pub returns-in-Sum : goal.returns-in-Sum
returns-in-Sum c s is next =
    let old = c.args.self.now in
    let sums : c.add_all.new.sums ≡ added old.sums c.in-Sum.more =
    c.add_all.ensures ∙ ap₂ added (c.deref_mut.ensures.value ∙ ap (λ (t : Running). t.sums) c.self.view_is) c.values.ensures.value in
    total_more c.args.job.now s c.args.range c.args.verdict.now old _ is next
    (written_whole c.self.inside.sums.len c.add_all.new.sums c.self.inside.sums.items (search rules) (search rules)
    ∙ sums
    ∙ ap (added_verdict old.sums) (sym c.in-Sum.is))
    (ap (λ (t : Running). t.over) c.self.view_is ∙ no_path old.over ∙ ap (λ (v : Verdict). lesser old.over (path_in (Some v))) (sym c.in-Sum.is))

pub returns-in-Over : goal.returns-in-Over
returns-in-Over c s is next =
    let old = c.args.self.now in
    total_more c.args.job.now s c.args.range c.args.verdict.now old _ is next
    (ap (λ (t : Running). t.sums) c.self.view_is ∙ ap (added_verdict old.sums) (sym c.in-Over.is))
    (c.least.ensures ∙ ap₂ lesser (ap (λ (t : Running). t.over) c.self.view_is) (ap (λ (v : Verdict). path_in (Some v)) (sym c.in-Over.is)))
