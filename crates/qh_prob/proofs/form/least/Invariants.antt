use Rattle.std.proofs.Common.{◌≡◌, ◌-◌, ◌≤◌}
use Rattle.qh_prob.specs.Probability.{IsBounded}
use Rattle.qh_prob.specs.Forms.{doubled}
use Rattle.qh_prob.proofs.form.least.Given as goal

abbrev pub invariant-loop-power : goal.invariant-loop-power
invariant-loop-power l = record {
  bounded : l.power ≤ l.k;
  small : IsBounded l.rest;
  same : doubled (l.k - l.power) l.rest ≡ l.prob;
}

abbrev pub decreases-loop-power : goal.decreases-loop-power
decreases-loop-power l = l.power
