-- The slots of a family that fit stay within the limits of their numbers, however many ranges all its prefix values have together.
use Rattle.std.proofs.Common.{◌≡◌, ℕ, zero, suc, inl, inr, ◌+◌, ◌-◌, ◌*◌, ◌^◌, ◌<◌, ◌≤◌, List, length, Option, Some, None, arith, refl, sym, subst}
use Rattle.std.specs.List.{All, range_with_len}
use Rattle.std.proofs.lemmas.List.{get_or_past}
use Rattle.std.proofs.lemmas.List.Elements.{All-map, All-get_or}
use Rattle.std.proofs.lemmas.Bool.{cases_lt}
use Rattle.qh_ring.specs.declared.number.Omega.{Omega}
use Rattle.qh_ring.specs.Numbers.{nothing, IsWithin}
use Rattle.qh_ring.specs.States.{at_index}
use Rattle.qh_plan.specs.declared.verdict.Verdict.{Verdict}
use Rattle.qh_plan.specs.declared.verdict.Verdict.TheVariants.{Sum, Over}
use Rattle.qh_plan.specs.Jobs.{Job, IsJob, per_range, ranges}
use Rattle.qh_plan.specs.Ranges.{IsSmall, Fits}
use Rattle.qh_plan.proofs.PlanLemmas.{counted_job}
use Rattle.qh_plan.specs.Slots.{AreFit, slot_number, slot_sums, sum_of_slots}
use Rattle.qh_plan.proofs.LimitLemmas.{IsAtMost, sum_below_at_most, within_126}
use Rattle.qh_merge.specs.Union.{whole}

at_most_small : (limit : ℕ) (z : Omega) → IsSmall limit z → IsAtMost (limit - 1) z
at_most_small limit z h = record {
  a = let s = h.a in omega arith;
  b = let s = h.b in omega arith;
  c = let s = h.c in omega arith;
  d = let s = h.d in omega arith;
}

nothing_at_most : (m : ℕ) → IsAtMost m nothing
nothing_at_most m = record { a = omega arith; b = omega arith; c = omega arith; d = omega arith }

sums_at_place : (limit : ℕ) (sums : List Omega) (place : ℕ) → All (IsSmall limit) sums → IsAtMost (limit - 1) (at_index sums place)
sums_at_place limit sums place h = elim (cases_lt place (length sums)) [
  | inl l ↦ at_most_small limit (at_index sums place) (All-get_or (IsSmall limit) sums place nothing l h)
  | inr g ↦ subst (IsAtMost (limit - 1)) (sym (get_or_past sums place nothing g)) (nothing_at_most (limit - 1))
]

slot_at_most : (j : Job) (r : ℕ) (o : Option Verdict) (place : ℕ) → ((v : Verdict) → o ≡ Some v → Fits j r v) → IsAtMost (per_range j * 2 ^ 94 - 1) (slot_number o place)
slot_at_most j r None place h = nothing_at_most _
slot_at_most j r (Some (Sum sums)) place h = sums_at_place (per_range j * 2 ^ 94) sums place (h (Sum sums) refl).1
slot_at_most j r (Some (Over path)) place h = nothing_at_most _

-- the sum over r ranges with m paths each, all of whose numbers are below m·2^94
few_slots : (r m : ℕ) → r * m ≤ 2 ^ 32 → r * (m * 2 ^ 94 - 1) < 2 ^ 126
few_slots zero m f = omega arith
few_slots (suc n) zero f = none (suc n)
  where
    none : (n : ℕ) → n * (0 * 2 ^ 94 - 1) < 2 ^ 126
    none n = omega arith
few_slots (suc n) (suc m) f = less (suc n * (suc m * 2 ^ 94 - 1)) (suc n) (suc n * suc m) (scaled (suc n) m (2 ^ 94) (omega arith)) f (omega arith)
  where
    scaled : (n m k : ℕ) → 0 < k → n * (suc m * k - 1) + n ≡ n * suc m * k
    scaled n m zero p = absurd (omega arith)
    scaled n m (suc k) p =
        let f : suc m * suc k - 1 ≡ m * suc k + k = omega arith in
        rw f (omega arith)

    less : (t n p : ℕ) → t + n ≡ p * 2 ^ 94 → p ≤ 2 ^ 32 → 0 < n → t < 2 ^ 126
    less t n p e l q = omega arith

few_whole : (j : Job) → IsJob j → ranges (whole j) * per_range (whole j) ≤ 2 ^ 32
few_whole j h = let k = counted_job j h in omega (arith, k.product, k.few)

-- the sums of all slots, for each asked index
pub sums_within : (j : Job) (slots : ℕ → Option Verdict) → IsJob j → AreFit (whole j) slots → All (IsWithin 126) (slot_sums (whole j) slots)
unfolding slot_sums
sums_within j slots h fit =
    All-map (IsWithin 126) (sum_of_slots slots (ranges (whole j))) (range_with_len 0 (length j.bits)) (λ i d b.
    within_126 (ranges (whole j) * (per_range (whole j) * 2 ^ 94 - 1)) _ (few_slots (ranges (whole j)) (per_range (whole j)) (few_whole j h))
    (sum_below_at_most (ranges (whole j)) (per_range (whole j) * 2 ^ 94 - 1) (λ r. slot_number (slots r) _)
    (λ r l. slot_at_most (whole j) r (slots r) _ (λ v e. fit.each r v l e))))
