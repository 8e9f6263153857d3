use Rattle.std.proofs.Common.{arith}
use Rattle.qh_ring.proofs.NumberLemmas.{least_of_odd, times_root_step}
use Rattle.qh_ring.proofs.canon.reduce.Goals as goal

pub loop-power-preserved : goal.loop-power-preserved
loop-power-preserved c = record {
  bounded = omega arith;
  within = c.in-Some.ensures.some.1;
  same = times_root_step _ _ _ _ _ c.loop-power-test.true c.loop-power.invariant.bounded c.loop-power.invariant.same c.in-Some.ensures.some.0;
}

pub returns-in_default : goal.returns-in_default
returns-in_default c = record {
  bounded = c.loop-power.invariant.bounded;
  same = c.loop-power.invariant.same;
  least = least_of_odd _ _ _ _ c.loop-power.invariant.bounded c.loop-power.invariant.same c.in_default.ensures.none;
}
