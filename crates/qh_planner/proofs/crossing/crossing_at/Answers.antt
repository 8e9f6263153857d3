use Rattle.std.proofs.Common.{arith}
use Rattle.qh_planner.proofs.CountLemmas.{counted_next}
use Rattle.qh_planner.proofs.crossing.crossing_at.Goals as goal

pub loop-gate-preserved : goal.loop-gate-preserved
loop-gate-preserved c = record {
  counted = counted_next c.args.size c.args.p c.args.r c.loop-gate.gate-index c.args.gates.now _ c.loop-gate.crossing c.with_gate-crossing.result
      c.loop-gate-test.true c.loop-gate.invariant.counted c.with_gate-crossing.ensures.across c.with_gate-crossing.ensures.inside;
  small = c.with_gate-crossing.ensures.small;
  few = omega (arith, c.with_gate-crossing.ensures.few, c.loop-gate.invariant.few);
}
