use Rattle.std.proofs.Common.{◌≡◌, ◌+◌}
use Rattle.qh_half.proofs.half.tick_all.Given as goal

abbrev pub invariant-loop : goal.invariant-loop
invariant-loop g l = l.steps ≡ l.initial.steps + l.counter
