use Rattle.std.proofs.Common.{◌≡◌, ℕ, ◌<◌, ◌≤◌}
use Rattle.qh_ring.specs.Numbers.{sum}
use Rattle.qh_ring.specs.States.{at_index}
use Rattle.qh_range.proofs.total.add_all.Given as goal

abbrev pub invariant-loop-i : goal.invariant-loop-i
invariant-loop-i l = record {
  done : (k : ℕ) → k < l.i → at_index l.sums k ≡ sum (at_index l.initial.sums k) (at_index l.more k);
  rest : (k : ℕ) → l.i ≤ k → at_index l.sums k ≡ at_index l.initial.sums k;
}
