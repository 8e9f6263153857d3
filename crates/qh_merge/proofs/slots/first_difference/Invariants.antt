use Rattle.std.proofs.Common.{◌≡◌, ℕ, ◌<◌}
use Rattle.qh_slots.specs.Stands.{slot_at}
use Rattle.qh_merge.proofs.slots.first_difference.Given as goal

abbrev pub invariant-loop-r : goal.invariant-loop-r
invariant-loop-r l = (q : ℕ) → q < l.r → slot_at l.one q ≡ slot_at l.two q
