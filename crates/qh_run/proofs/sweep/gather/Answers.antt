use Rattle.std.proofs.Common.{◌≡◌, ◌≤◌, ◌<◌, ◌+◌, ◌∷◌, ◌++◌, [], ℕ, List, length, refl, arith, sym, ap, subst, ◌∙◌}
use Rattle.qh_plan.specs.Jobs.{Job, ranges}
use Rattle.qh_lease.specs.Lease.{IsLowest}
use Rattle.qh_core.specs.Replay.{is_open}
use Rattle.qh_range.specs.Results.{RangeResult}
use Rattle.qh_run.specs.Sweeping.{IsGathered}
use Rattle.qh_run.proofs.SweepLemmas.{gathered_none, gathered_more, gathered_rest, length_push, forward_more}
use Rattle.qh_run.proofs.sweep.gather.Goals as goal

pub loop-place-init : goal.loop-place-init
loop-place-init g c =
    let b = c.args.board.now in record {
      worker = refl;
      gathered = subst (λ (group : List RangeResult). IsGathered b.job b.course.leases c.args.from c.args.from group) (sym c.new-group.ensures) (gathered_none b.job b.course.leases c.args.from);
      filled = ap (length {A = RangeResult}) c.new-group.ensures;
      forward = omega arith;
    }

pub loop-place-preserved : goal.loop-place-preserved
loop-place-preserved g c =
    let b = c.args.board.now in
    let x = c.in_ok-outcome-in-Granted.outcome in
    let told = c.in_ok-outcome-in-Granted.ensures in
    let before = c.loop-place.invariant in
    let group = c.loop-place.group in
    let next = c.loop-place.next in
    let lowest : IsLowest is_open next b.course.leases x.range = subst (λ n. IsLowest is_open next b.course.leases n) (sym told.range) c.in-Granted.ensures.2 in
    let at_next : x.range ≡ c.range-next.result = told.range ∙ sym c.range-next.ensures in record {
      worker = c.compute.ensures.same ∙ before.worker;
      gathered = subst (λ (l : List RangeResult). IsGathered b.job b.course.leases c.args.from (c.range-next.result + 1) l) (sym c.push.ensures)
          (subst (λ n. IsGathered b.job b.course.leases c.args.from (n + 1) (group ++ x ∷ [])) at_next
          (gathered_more b.job b.course.leases c.args.from next group x before.gathered (told.job ∙ before.worker ∙ c.requires.same) lowest));
      filled = ap (length {A = RangeResult}) c.push.ensures ∙ length_push group x c.loop-place._place before.filled;
      forward = forward_more c.args.from c.loop-place._place next x.range c.range-next.result before.forward lowest.above (sym at_next);
    }

pub returns-in-Done-clause-gathered : goal.returns-in-Done-clause-gathered
returns-in-Done-clause-gathered g c =
    let b = c.args.board.now in
    let end : c.ranges-in-Done.result ≡ length b.course.leases =
    c.ranges-in-Done.ensures.value ∙ ap ranges (c.loop-place.invariant.worker ∙ c.requires.same) ∙ sym c.requires.count in
    gathered_rest b.job b.course.leases c.args.from c.loop-place.next c.ranges-in-Done.result c.loop-place.group c.loop-place.invariant.gathered c.in-Done.ensures.1 end
