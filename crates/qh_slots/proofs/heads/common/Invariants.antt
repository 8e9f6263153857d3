use Rattle.std.proofs.Common.{◌≡◌, ◌+◌, drop}
use Rattle.qh_slots.specs.Attaching.{common}
use Rattle.qh_slots.proofs.heads.common.Given as goal

abbrev pub invariant-loop-n : goal.invariant-loop-n
invariant-loop-n l = l.n + common (drop l.n l.front) (drop l.n l.head) ≡ common l.front l.head
