-- The tests of a path's limits, and what numbers within them add up to.
use Rattle.std.proofs.Common.{◌≡◌, ℕ, zero, suc, inl, inr, ◌+◌, ◌-◌, ◌*◌, ◌^◌, ◌<◌, ◌≤◌, ℤ, ◌+ℤ◌, ◌-ℤ◌, ◌*ℤ◌, Bool, true, false, arith, refl, sym, ap, subst, ◌∙◌}
use Rattle.std.specs.Int.RustNames.{unsigned_abs}
use Rattle.std.specs.List.{All}
use Rattle.std.proofs.lemmas.List.Elements.{All-from_get_or}
use Rattle.std.proofs.lemmas.Int.{ints}
use Rattle.std.proofs.lemmas.Bool.{and_parts, and_from, ltb-true, lt-ltb, cases_Bool, cases_eq}
use Rattle.qh_ring.specs.declared.number.Omega.{Omega}
use Rattle.qh_ring.specs.Numbers.{sum, product, scaled_by, IsWithin, AreNarrow, nothing}
use Rattle.qh_ring.specs.States.{sum_below, listed}
use Rattle.qh_plan.specs.MeaningLimits.{is_below, is_within, are_narrow, all_below, state_fits}
use Rattle.qh_ring.proofs.ListedLemmas.{length-listed, at_listed}
use Rattle.qh_gates.specs.Evolution.{StateFits}
use Rattle.qh_plan.specs.Laws.{AreLimits}

-- each coefficient's magnitude is at most m
pub record IsAtMost (m : ℕ) (z : Omega) : Type 0 where
  pub a : unsigned_abs z.a ≤ m
  pub b : unsigned_abs z.b ≤ m
  pub c : unsigned_abs z.c ≤ m
  pub d : unsigned_abs z.d ≤ m

pub sum_at_most : (m n : ℕ) (x y : Omega) → IsAtMost m x → IsAtMost n y → IsAtMost (m + n) (sum x y)
sum_at_most m n x y h k = record { a = omega (arith, ints); b = omega (arith, ints); c = omega (arith, ints); d = omega (arith, ints) }

pub sum_below_at_most : (n m : ℕ) (f : ℕ → Omega) → ((k : ℕ) → k < n → IsAtMost m (f k)) → IsAtMost (n * m) (sum_below n f)
sum_below_at_most zero m f h = record { a = omega arith; b = omega arith; c = omega arith; d = omega arith }
sum_below_at_most (suc n) m f h =
    let e : n * m + m ≡ suc n * m = omega arith in
    subst (λ t. IsAtMost t (sum (sum_below n f) (f n))) e
    (sum_at_most (n * m) m (sum_below n f) (f n) (sum_below_at_most n m f (λ k l. h k (omega arith))) (h n (omega arith)))

pub within_126 : (m : ℕ) (z : Omega) → m < 2 ^ 126 → IsAtMost m z → IsWithin 126 z
within_126 m z l h = record { a = omega (arith, h.a); b = omega (arith, h.b); c = omega (arith, h.c); d = omega (arith, h.d) }

-- ---- the tests and the facts
below_is : (bits : ℕ) (x : ℤ) → is_below bits x ≡ true → unsigned_abs x < 2 ^ bits
below_is bits x e = ltb-true _ _ e

pub within_is : (bits : ℕ) (z : Omega) → is_within bits z ≡ true → IsWithin bits z
within_is bits z e =
    let p = and_parts _ _ e in
    let q = and_parts _ _ p.1 in
    let r = and_parts _ _ q.1 in
    record { a = below_is bits z.a p.0; b = below_is bits z.b q.0; c = below_is bits z.c r.0; d = below_is bits z.d r.1 }

below_from : (bits : ℕ) (x : ℤ) → unsigned_abs x < 2 ^ bits → is_below bits x ≡ true
below_from bits x l = lt-ltb _ _ l

pub within_from : (bits : ℕ) (z : Omega) → IsWithin bits z → is_within bits z ≡ true
within_from bits z h =
    and_from _ _ (below_from bits z.a h.a) (and_from _ _ (below_from bits z.b h.b) (and_from _ _ (below_from bits z.c h.c) (below_from bits z.d h.d)))

-- the test of the products and the fact that code shows
pub narrow_is : (x y : Omega) → are_narrow x y ≡ true → AreNarrow x y
narrow_is x y e =
    let p = and_parts _ _ e in
    let q = and_parts _ _ p.1 in
    let r = and_parts _ _ q.1 in
    record {
      a = within_is 92 (scaled_by x.a y) p.0;
      b = within_is 92 (scaled_by x.b y) q.0;
      c = within_is 92 (scaled_by x.c y) r.0;
      d = within_is 92 (scaled_by x.d y) r.1;
    }

pub narrow_from : (x y : Omega) → AreNarrow x y → are_narrow x y ≡ true
narrow_from x y h =
    and_from _ _ (within_from 92 (scaled_by x.a y) h.a) (and_from _ _ (within_from 92 (scaled_by x.b y) h.b)
    (and_from _ _ (within_from 92 (scaled_by x.c y) h.c) (within_from 92 (scaled_by x.d y) h.d)))

pub not_narrow : (x y : Omega) → (AreNarrow x y → ⊥) → are_narrow x y ≡ false
not_narrow x y h = elim (cases_Bool (are_narrow x y)) [ inl e ↦ absurd (h (narrow_is x y e)) | inr e ↦ e ]

-- what all numbers below n pass, each passes, and the other way round
pub below_each : (n : ℕ) (test : ℕ → Bool) → all_below n test ≡ true → (k : ℕ) → k < n → test k ≡ true
below_each zero test e k l = absurd (omega arith)
below_each (suc n) test e k l =
    let p = and_parts _ _ e in
    elim (cases_eq k n) [ inl s ↦ ap test s ∙ p.1 | inr ne ↦ below_each n test p.0 k (omega arith) ]

pub each_below : (n : ℕ) (test : ℕ → Bool) → ((k : ℕ) → k < n → test k ≡ true) → all_below n test ≡ true
each_below zero test h = refl
each_below (suc n) test h = and_from _ _ (each_below n test (λ k l. h k (omega arith))) (h n (omega arith))

-- a state fits exactly where its list does
pub fits_listed : (n : ℕ) (v : ℕ → Omega) → state_fits n v ≡ true → All (IsWithin 126) (listed n v)
fits_listed n v e = All-from_get_or (IsWithin 126) (listed n v) nothing (λ x l.
    let b : x < 2 ^ n = subst (λ m. x < m) (length-listed n v) l in
    subst (IsWithin 126) (sym (at_listed n v x b)) (within_is 126 (v x) (below_each (2 ^ n) (λ y. is_within 126 (v y)) e x b)))

pub listed_fits : (n : ℕ) (v : ℕ → Omega) → All (IsWithin 126) (listed n v) → state_fits n v ≡ true
listed_fits n v h = each_below (2 ^ n) (λ y. is_within 126 (v y)) (λ x l.
    within_from 126 (v x) (subst (IsWithin 126) (at_listed n v x l) (h x nothing (subst (λ m. x < m) (sym (length-listed n v)) l))))

abs_add : (x y : ℤ) → unsigned_abs (x +ℤ y) ≤ unsigned_abs x + unsigned_abs y
abs_add x y = omega (arith, ints)

abs_sub : (x y : ℤ) → unsigned_abs (x -ℤ y) ≤ unsigned_abs x + unsigned_abs y
abs_sub x y = omega (arith, ints)

-- a product whose sixteen parts are below 2^92 is below 2^94
pub narrow_product : (x y : Omega) → are_narrow x y ≡ true → IsAtMost (4 * (2 ^ 92 - 1)) (product x y)
unfolding product
narrow_product x y e =
    let p = and_parts _ _ e in
    let q = and_parts _ _ p.1 in
    let r = and_parts _ _ q.1 in
    let wa = within_is 92 (scaled_by x.a y) p.0 in
    let wb = within_is 92 (scaled_by x.b y) q.0 in
    let wc = within_is 92 (scaled_by x.c y) r.0 in
    let wd = within_is 92 (scaled_by x.d y) r.1 in
    record {
      a = four_sub (x.a *ℤ y.a) (x.b *ℤ y.d) (x.c *ℤ y.c) (x.d *ℤ y.b) wa.a wb.d wc.c wd.b;
      b = two_sub (x.a *ℤ y.b) (x.b *ℤ y.a) (x.c *ℤ y.d) (x.d *ℤ y.c) wa.b wb.a wc.d wd.c;
      c = one_sub (x.a *ℤ y.c) (x.b *ℤ y.b) (x.c *ℤ y.a) (x.d *ℤ y.d) wa.c wb.b wc.a wd.d;
      d = four_add (x.a *ℤ y.d) (x.b *ℤ y.c) (x.c *ℤ y.b) (x.d *ℤ y.a) wa.d wb.c wc.b wd.a;
    }
  where
    four_sub : (p q r s : ℤ) → unsigned_abs p < 2 ^ 92 → unsigned_abs q < 2 ^ 92 → unsigned_abs r < 2 ^ 92 → unsigned_abs s < 2 ^ 92 → unsigned_abs (p -ℤ q -ℤ r -ℤ s) ≤ 4 * (2 ^ 92 - 1)
    four_sub p q r s a b c d = omega (arith, abs_sub p q, abs_sub (p -ℤ q) r, abs_sub (p -ℤ q -ℤ r) s)

    two_sub : (p q r s : ℤ) → unsigned_abs p < 2 ^ 92 → unsigned_abs q < 2 ^ 92 → unsigned_abs r < 2 ^ 92 → unsigned_abs s < 2 ^ 92 → unsigned_abs (p +ℤ q -ℤ r -ℤ s) ≤ 4 * (2 ^ 92 - 1)
    two_sub p q r s a b c d = omega (arith, abs_add p q, abs_sub (p +ℤ q) r, abs_sub (p +ℤ q -ℤ r) s)

    one_sub : (p q r s : ℤ) → unsigned_abs p < 2 ^ 92 → unsigned_abs q < 2 ^ 92 → unsigned_abs r < 2 ^ 92 → unsigned_abs s < 2 ^ 92 → unsigned_abs (p +ℤ q +ℤ r -ℤ s) ≤ 4 * (2 ^ 92 - 1)
    one_sub p q r s a b c d = omega (arith, abs_add p q, abs_add (p +ℤ q) r, abs_sub (p +ℤ q +ℤ r) s)

    four_add : (p q r s : ℤ) → unsigned_abs p < 2 ^ 92 → unsigned_abs q < 2 ^ 92 → unsigned_abs r < 2 ^ 92 → unsigned_abs s < 2 ^ 92 → unsigned_abs (p +ℤ q +ℤ r +ℤ s) ≤ 4 * (2 ^ 92 - 1)
    four_add p q r s a b c d = omega (arith, abs_add p q, abs_add (p +ℤ q) r, abs_add (p +ℤ q +ℤ r) s)

-- such a product is within 126 bits
pub product_within : (x y : Omega) → AreNarrow x y → IsWithin 126 (product x y)
product_within x y h = within_126 (4 * (2 ^ 92 - 1)) (product x y) (omega arith) (narrow_product x y (narrow_from x y h))

-- a state fits exactly where each of its numbers does
state_is : (n : ℕ) (v : ℕ → Omega) → state_fits n v ≡ true → StateFits n v
state_is n v e x l = within_is 126 (v x) (below_each (2 ^ n) (λ y. is_within 126 (v y)) e x l)

state_from : (n : ℕ) (v : ℕ → Omega) → StateFits n v → state_fits n v ≡ true
state_from n v h = each_below (2 ^ n) (λ y. is_within 126 (v y)) (λ x l. within_from 126 (v x) (h x l))

pub are_limits : AreLimits
are_limits = record {
  within = λ bits z. (within_is bits z, within_from bits z);
  narrow = λ x y. (narrow_is x y, narrow_from x y);
  state = λ n v. (state_is n v, state_from n v);
}
