use Rattle.std.proofs.Common.{ℕ, ◌<◌}
use Rattle.std.specs.Prelude.{IsSome}
use Rattle.qh_slots.specs.Stands.{slot_at}
use Rattle.qh_merge.proofs.slots.first_closed.Given as goal

abbrev pub invariant-loop-r : goal.invariant-loop-r
invariant-loop-r l = (q : ℕ) → q < l.r → IsSome (slot_at l.table q)
