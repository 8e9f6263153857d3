use Rattle.std.proofs.Common.{◌≡◌, ◌<◌, ℕ, length, sym, subst, ap, ◌∙◌, arith}
use Rattle.qh_plan.specs.Jobs.{Job, ranges}
use Rattle.qh_range.proofs.RootLemmas.{some_range}
use Rattle.qh_board.proofs.StartLemmas.{started_all}
use Rattle.qh_board.proofs.start.course_of.Goals as goal

pub new-requires-clause-some : goal.new-requires-clause-some
new-requires-clause-some g c = subst (λ (n : ℕ). 0 < n) (sym c.ranges-2.ensures.value) (some_range c.args.job.now c.ranges-2.ensures.valid)

pub returns : goal.returns
returns g c =
    let end : c.loop-range.range ≡ c.ranges-range-end.result = omega arith in
    started_all c.args.journal.now.table c.loop-range.range c.loop-range.course
    (end ∙ c.ranges-range-end.ensures.value ∙ ap (λ (j : Job). ranges j) (sym c.requires.job) ∙ sym c.requires.valid.count) c.loop-range.invariant
