use Rattle.std.proofs.Common.{◌≡◌, ◌-◌, ◌≤◌}
use Rattle.qh_ring.specs.Numbers.{IsWithin, times_root}
use Rattle.qh_ring.proofs.canon.reduce.Given as goal

abbrev pub invariant-loop-power : goal.invariant-loop-power
invariant-loop-power l = record {
  bounded : l.power ≤ l.k;
  within : IsWithin 126 l.rest;
  same : times_root (l.k - l.power) l.rest ≡ l.z;
}

abbrev pub decreases-loop-power : goal.decreases-loop-power
decreases-loop-power l = l.power
