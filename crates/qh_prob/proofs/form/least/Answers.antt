use Rattle.std.proofs.Common.{arith}
use Rattle.qh_prob.proofs.FormLemmas.{halved_step, least_left, least_at_zero, least_own}
use Rattle.qh_prob.proofs.form.least.Goals as goal

pub loop-power-preserved : goal.loop-power-preserved
loop-power-preserved c = record {
  bounded = omega arith;
  small = c.in-Some.ensures.some.1;
  same = halved_step _ _ _ _ _ c.loop-power-test.true c.loop-power.invariant.bounded c.loop-power.invariant.same c.in-Some.ensures.some.0;
}

pub returns-in_default-clause-form : goal.returns-in_default-clause-form
returns-in_default-clause-form c = least_left _ _ _ _ c.loop-power.invariant.bounded c.loop-power.invariant.same c.in_default.ensures.none

pub returns-in_default-clause-own : goal.returns-in_default-clause-own
returns-in_default-clause-own c = least_own _ _ _ _ (least_left _ _ _ _ c.loop-power.invariant.bounded c.loop-power.invariant.same c.in_default.ensures.none)

pub returns-after-loop-power-clause-own : goal.returns-after-loop-power-clause-own
returns-after-loop-power-clause-own c = least_own _ _ _ _ (least_at_zero _ _ _ _ c.loop-power.invariant.bounded c.loop-power-test.false c.loop-power.invariant.same)
