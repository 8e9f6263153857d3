use Rattle.std.proofs.Common.{◌≡◌, ℕ, ◌<◌}
use Rattle.qh_ring.specs.States.{at_index}
use Rattle.qh_merge.proofs.slots.same_numbers.Given as goal

abbrev pub invariant-loop-k : goal.invariant-loop-k
invariant-loop-k l = (q : ℕ) → q < l.k → at_index l.one q ≡ at_index l.two q
