-- Where a slot begins, and that the journal is short.
use Rattle.std.proofs.Common.{◌≡◌, ◌<◌, ℕ, ◌+◌, ◌*◌, ◌≤◌, length, refl, arith}
use Rattle.qh_plan.specs.Jobs.{Job, ranges}
use Rattle.qh_slots.specs.Layout.{head, place, slot_size}
use Rattle.qh_slots.proofs.PlaceLemmas.{apart}

pub at_place : (j : Job) (start n size r : ℕ) → start ≡ length (head j) → n ≡ r → size ≡ slot_size j → start + n * size ≡ place (head j) j r
unfolding place
at_place j start n size r es en ez = rw (es, en, ez) refl

pub below_room : (j : Job) (r : ℕ) → r < ranges j → place (head j) j (ranges j) ≤ 1073741824 → place (head j) j r ≤ 1073741824
below_room j r low short = let a = apart (head j) j r (ranges j) low in omega arith
