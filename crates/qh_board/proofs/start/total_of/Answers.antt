use Rattle.std.proofs.Common.{◌≡◌, ◌<◌, ◌+◌, ℕ, length, Some, None, sym, subst, ap, ◌∙◌, arith}
use Rattle.std.specs.Prelude.{option_map}
use Rattle.qh_plan.specs.Jobs.{Job, ranges}
use Rattle.qh_slots.specs.Stands.{slot_at, AllFit}
use Rattle.qh_slots.specs.Running.{Running}
use Rattle.qh_board.proofs.StartLemmas.{IsTotalBelow, total_bare, total_next, total_added, total_all}
use Rattle.qh_board.proofs.start.total_of.Goals as goal
use Rattle.qh_board.proofs.start.total_of.Goals.{in-Some, in_default}

pub loop-range-preserved : goal.loop-range-preserved
loop-range-preserved g c =
    let table = c.args.journal.now.table in
    let j = c.args.job.now in
    let count : length table ≡ ranges j = c.requires.valid.count ∙ ap (λ (k : Job). ranges k) c.requires.job in
    let fit : AllFit j table = subst (λ (k : Job). AllFit k table) c.requires.job c.requires.valid.fits in
    let low : c.loop-range.range < ranges j = subst (λ (n : ℕ). c.loop-range.range < n) c.ranges-range-end.ensures.value c.loop-range-test.true in
    elim c.match-slot.branch [
      | in-Some w ↦
          let held : slot_at table c.loop-range.range ≡ Some w.in-Some.verdict.now = sym c.slot.ensures ∙ ap (option_map (λ v. v.now)) w.in-Some.is in
          let inside : c.loop-range.range < length table = subst (λ (n : ℕ). c.loop-range.range < n) (sym count) low in
          subst (λ (t : Running). IsTotalBelow j table (c.loop-range.range + 1) t) (sym w.total-is)
          (total_added j table c.loop-range.range c.loop-range.total w.add.new.self w.in-Some.verdict.now inside held c.loop-range.invariant
          (w.add.ensures c.loop-range.invariant.slots c.loop-range.invariant.total
          (total_next j table c.loop-range.range c.loop-range.total w.in-Some.verdict.now count fit low held c.loop-range.invariant)))
      | in_default w ↦
          let bare : slot_at table c.loop-range.range ≡ None = sym c.slot.ensures ∙ ap (option_map (λ v. v.now)) w.in_default.is in
          subst (λ (t : Running). IsTotalBelow j table (c.loop-range.range + 1) t) (sym w.total-is)
          (total_bare j table c.loop-range.range c.loop-range.total c.loop-range.invariant bare)
    ]

pub returns : goal.returns
returns g c =
    let end : c.loop-range.range ≡ c.ranges-range-end.result = omega arith in
    total_all c.args.job.now c.args.journal.now.table c.loop-range.range c.loop-range.total
    (end ∙ c.ranges-range-end.ensures.value ∙ ap (λ (j : Job). ranges j) (sym c.requires.job) ∙ sym c.requires.valid.count) c.loop-range.invariant
