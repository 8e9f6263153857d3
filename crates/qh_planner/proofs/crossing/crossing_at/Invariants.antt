use Rattle.std.proofs.Common.{◌≤◌, take}
use Rattle.qh_plan.specs.Paths.{radices}
use Rattle.qh_planner.specs.Counts.{IsCounted, IsSmall, below}
use Rattle.qh_planner.proofs.crossing.crossing_at.Given as goal

abbrev pub invariant-loop-gate : goal.invariant-loop-gate
invariant-loop-gate l = record {
  counted : IsCounted (radices (below l.size) (take l.gate-index l.gates)) l.p l.r l.crossing;
  small : IsSmall l.crossing;
  few : l.crossing.gates ≤ l.gate-index;
}
