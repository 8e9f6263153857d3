use Rattle.std.proofs.Common.{◌≡◌, ◌<◌, ◌≤◌, ◌+◌, ℕ, true, false, length, subst, sym, ap, ◌∙◌, arith, rules}
use Rattle.qh_limits.specs.Counts.{Rose, RoseBy}
use Rattle.qh_limits.proofs.Chains.{rose_more}
use Rattle.qh_lease.specs.Lease.{lease_at, grants_of, count_out, IsLowest, NonePasses, may_grant_out}
use Rattle.qh_lease.proofs.Outs.{count_out-lowest, count_out-past, count_out-none}
use Rattle.qh_board.proofs.LateLemmas.{not_due_below, not_due_past, not_due_all}
use Rattle.qh_board.proofs.choice.next_late.Goals as goal

pub returns-then-due-clause-late : goal.returns-then-due-clause-late
returns-then-due-clause-late g c =
    let lowest : IsLowest may_grant_out c.loop-range.from c.args.course.now.leases c.in-Some.range = c.in-Some.ensures.found in
    let due : Rose (g.T.Timer.due_count c.loop-range.timer) (g.T.Timer.due_count c.due.new.self) = c.if-due.ensures.due in
    let same : g.T.Timer.not_due_count c.due.new.self ≡ g.T.Timer.not_due_count c.loop-range.timer = c.if-due.ensures.not_due_stays in
    let attempt : c.attempt_of.result ≡ grants_of (lease_at c.args.course.now.leases c.in-Some.range) = c.attempt_of.ensures ∙ ap grants_of c.lease.ensures in
    record {
      known = lowest.within;
      out = lowest.passes;
      is_due = subst (λ (n : ℕ). Rose n (g.T.Timer.due_count c.due.new.self)) c.loop-range.invariant.1 due;
      before = subst (λ (n : ℕ). RoseBy (count_out c.args.course.now.leases c.in-Some.range) (g.T.Timer.not_due_count c.args.timer.now) n) (sym same)
          (subst (λ (n : ℕ). RoseBy n (g.T.Timer.not_due_count c.args.timer.now) (g.T.Timer.not_due_count c.loop-range.timer))
          (sym (count_out-lowest c.args.course.now.leases c.loop-range.from c.in-Some.range lowest)) c.loop-range.invariant.3);
      said = record { asked = c.loop-range.timer; said = subst (λ (n : ℕ). g.T.Timer.may_say c.loop-range.timer c.in-Some.range n true) attempt c.if-due.ensures.said };
      lower = not_due_below g.T.Timer.may_say c.args.course.now.leases c.loop-range.from c.in-Some.range lowest c.loop-range.invariant.4;
    }

pub loop-range-preserved : goal.loop-range-preserved
loop-range-preserved g c =
    let lowest : IsLowest may_grant_out c.loop-range.from c.args.course.now.leases c.in-Some.range = c.in-Some.ensures.found in
    let waited : Rose (g.T.Timer.not_due_count c.loop-range.timer) (g.T.Timer.not_due_count c.due.new.self) = c.if-due.ensures.not_due in
    let same : g.T.Timer.due_count c.due.new.self ≡ g.T.Timer.due_count c.loop-range.timer = c.if-due.ensures.due_stays in
    let attempt : c.attempt_of.result ≡ grants_of (lease_at c.args.course.now.leases c.in-Some.range) = c.attempt_of.ensures ∙ ap grants_of c.lease.ensures in
    let within = lowest.within in (
      omega arith,
      same ∙ c.loop-range.invariant.1,
      c.due.ensures.granted ∙ c.loop-range.invariant.2,
      subst (λ (n : ℕ). RoseBy n (g.T.Timer.not_due_count c.args.timer.now) (g.T.Timer.not_due_count c.due.new.self))
          (sym (count_out-past c.args.course.now.leases c.loop-range.from c.in-Some.range lowest))
          (rose_more (count_out c.args.course.now.leases c.loop-range.from) (g.T.Timer.not_due_count c.args.timer.now) (g.T.Timer.not_due_count c.loop-range.timer) (g.T.Timer.not_due_count c.due.new.self) c.loop-range.invariant.3 waited),
      not_due_past g.T.Timer.may_say c.args.course.now.leases c.loop-range.from c.in-Some.range lowest c.loop-range.invariant.4
          (record { asked = c.loop-range.timer; said = subst (λ (n : ℕ). g.T.Timer.may_say c.loop-range.timer c.in-Some.range n false) attempt c.if-due.ensures.said }),
    )

pub returns-clause-none : goal.returns-clause-none
returns-clause-none g c = record {
  fresh = c.requires.fresh;
  returned = c.requires.returned;
  asked = subst (λ (n : ℕ). RoseBy n (g.T.Timer.not_due_count c.args.timer.now) (g.T.Timer.not_due_count c.loop-range.timer))
      (sym (count_out-none c.args.course.now.leases c.loop-range.from c.loop-range.invariant.0 c.in_default.ensures.none)) c.loop-range.invariant.3;
  each = not_due_all g.T.Timer.may_say c.args.course.now.leases c.loop-range.from c.in_default.ensures.none c.loop-range.invariant.4;
}
