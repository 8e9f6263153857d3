-- The algebra of numbers.
use Rattle.std.proofs.Common.{◌≡◌, ◌≢◌, ℕ, zero, suc, ◌+◌, ◌-◌, ◌*◌, ◌<◌, ◌≤◌, ℤ, pos, ◌+ℤ◌, ◌-ℤ◌, ◌*ℤ◌, neg_ℤ, to_z, of_z, arith, inl, inr, refl, sym, ap, subst, ◌∙◌}
use Rattle.std.specs.Int.{w128}
use Rattle.std.proofs.lemmas.Int.{ints}
use Rattle.std.proofs.Math.IntN.{*ℤ_comm, neg_ℤ-+ℤ, neg_ℤ-neg_ℤ, +ℤ_assoc}
use borrow.Author.Differences.{up, down, same_in, sum_is_lem, neg_is, product_is}
use Rattle.std.proofs.lemmas.Bool.{cases_lt}
use Rattle.qh_ring.specs.declared.number.Omega.{Omega}
use Rattle.qh_ring.specs.Numbers.{IsWithin, IsBelow, sum, product, nothing, one, unit, unit_power, root, times_root, scaled_by}
use Rattle.qh_ring.specs.Rows.{combined}

-- two numbers with the same coefficients are one
pub same_number : (x y : Omega) → x.a ≡ y.a → x.b ≡ y.b → x.c ≡ y.c → x.d ≡ y.d → x ≡ y
same_number x y p q r s = λ i. record { a = p i; b = q i; c = r i; d = s i }

pub product_comm : (x y : Omega) → product x y ≡ product y x
unfolding product
product_comm x y = same_number _ _ (omega (arith, ints)) (omega (arith, ints)) (omega (arith, ints)) (omega (arith, ints))

pub mul_add : (a b c : ℤ) → a *ℤ (b +ℤ c) ≡ a *ℤ b +ℤ a *ℤ c
mul_add a b c = omega (arith, ints, ap (λ n. up a * n) (sum_is_lem b c), ap (λ n. down a * n) (sum_is_lem b c))

pub mul_neg : (a b : ℤ) → a *ℤ neg_ℤ b ≡ neg_ℤ (a *ℤ b)
mul_neg a b = omega (arith, ints, ap (λ n. up a * n) (neg_is b).0, ap (λ n. down a * n) (neg_is b).0, ap (λ n. up a * n) (neg_is b).1, ap (λ n. down a * n) (neg_is b).1)

pub add_mul : (a b c : ℤ) → (a +ℤ b) *ℤ c ≡ a *ℤ c +ℤ b *ℤ c
add_mul a b c = *ℤ_comm (a +ℤ b) c ∙ mul_add c a b ∙ ap (λ n. n +ℤ c *ℤ b) (*ℤ_comm c a) ∙ ap (λ n. a *ℤ c +ℤ n) (*ℤ_comm c b)

pub neg_mul : (a b : ℤ) → neg_ℤ a *ℤ b ≡ neg_ℤ (a *ℤ b)
neg_mul a b = *ℤ_comm (neg_ℤ a) b ∙ mul_neg b a ∙ ap neg_ℤ (*ℤ_comm b a)

pub mul_assoc : (a b c : ℤ) → (a *ℤ b) *ℤ c ≡ a *ℤ (b *ℤ c)
mul_assoc a b c = omega (
  arith,
  ints,
  ap (λ n. n * up c) (product_is a b).0,
  ap (λ n. n * down c) (product_is a b).0,
  ap (λ n. n * up c) (product_is a b).1,
  ap (λ n. n * down c) (product_is a b).1,
  ap (λ n. up a * n) (product_is b c).0,
  ap (λ n. down a * n) (product_is b c).0,
  ap (λ n. up a * n) (product_is b c).1,
  ap (λ n. down a * n) (product_is b c).1,
)

-- products multiplied out to a flat sum, for `simp`; then `omega (arith, linear)` reads each product as an unknown
pub ruleset expand = (mul_add, mul_neg, add_mul, neg_mul, mul_assoc, neg_ℤ-+ℤ, neg_ℤ-neg_ℤ, +ℤ_assoc)

pub ruleset linear = (same_in, sum_is_lem, neg_is)

product_assoc_a : (x y z : Omega) → (product (product x y) z).a ≡ (product x (product y z)).a
unfolding product
product_assoc_a x y z = simp expand (omega (arith, linear))

product_assoc_b : (x y z : Omega) → (product (product x y) z).b ≡ (product x (product y z)).b
unfolding product
product_assoc_b x y z = simp expand (omega (arith, linear))

product_assoc_c : (x y z : Omega) → (product (product x y) z).c ≡ (product x (product y z)).c
unfolding product
product_assoc_c x y z = simp expand (omega (arith, linear))

product_assoc_d : (x y z : Omega) → (product (product x y) z).d ≡ (product x (product y z)).d
unfolding product
product_assoc_d x y z = simp expand (omega (arith, linear))

pub product_assoc : (x y z : Omega) → product (product x y) z ≡ product x (product y z)
product_assoc x y z = same_number _ _ (product_assoc_a x y z) (product_assoc_b x y z) (product_assoc_c x y z) (product_assoc_d x y z)

root_root : (x : Omega) → product root (product root x) ≡ sum x x
unfolding product
root_root x = same_number _ _ (omega (arith, ints)) (omega (arith, ints)) (omega (arith, ints)) (omega (arith, ints))

pub product_sum : (x y z : Omega) → product x (sum y z) ≡ sum (product x y) (product x z)
unfolding product
product_sum x y z = same_number _ _ (simp expand (omega (arith, linear))) (simp expand (omega (arith, linear))) (simp expand (omega (arith, linear))) (simp expand (omega (arith, linear)))

-- how the root changes the coefficients
pub root_times : (x : Omega) → product root x ≡ record { a = x.b -ℤ x.d; b = x.a +ℤ x.c; c = x.b +ℤ x.d; d = x.c -ℤ x.a }
unfolding product
root_times x = same_number _ _ (omega (arith, ints)) (omega (arith, ints)) (omega (arith, ints)) (omega (arith, ints))

root_injective : (x y : Omega) → product root x ≡ product root y → x ≡ y
root_injective x y e =
    let h = sym (root_times x) ∙ e ∙ root_times y in
    let ea : x.b -ℤ x.d ≡ y.b -ℤ y.d = ap (λ (z : Omega). z.a) h in
    let eb : x.a +ℤ x.c ≡ y.a +ℤ y.c = ap (λ (z : Omega). z.b) h in
    let ec : x.b +ℤ x.d ≡ y.b +ℤ y.d = ap (λ (z : Omega). z.c) h in
    let ed : x.c -ℤ x.a ≡ y.c -ℤ y.a = ap (λ (z : Omega). z.d) h in
    same_number x y (omega (arith, ints)) (omega (arith, ints)) (omega (arith, ints)) (omega (arith, ints))

pub times_root_add : (m n : ℕ) (z : Omega) → times_root (m + n) z ≡ times_root m (times_root n z)
times_root_add zero n z = let e : zero + n ≡ n = omega arith in ap (λ k. times_root k z) e
times_root_add (suc m) n z =
    let e : suc m + n ≡ suc (m + n) = omega arith in
    ap (λ k. times_root k z) e ∙ ap (product root) (times_root_add m n z)

pub times_root_injective : (n : ℕ) (x y : Omega) → times_root n x ≡ times_root n y → x ≡ y
times_root_injective zero x y e = e
times_root_injective (suc n) x y e = times_root_injective n x y (root_injective _ _ e)

-- no number times the root is z
abbrev pub IsOdd : Omega → Type 0
IsOdd z = (q : Omega) → product root q ≢ z

-- a number that the root does not divide is in least form
pub least_of_odd : (z rest : Omega) (k power : ℕ) → power ≤ k → times_root (k - power) rest ≡ z → IsOdd rest
    → (y : Omega) (j : ℕ) → j ≤ k → times_root (k - j) y ≡ z → power ≤ j
least_of_odd z rest k power within same odd y j below e = elim (cases_lt j power) [
  | inl h ↦
      let apart : (k - power) + suc (power - suc j) ≡ k - j = omega arith in
      absurd (odd (times_root (power - suc j) y) (times_root_injective (k - power) _ _
      (sym (times_root_add (k - power) (suc (power - suc j)) y) ∙ ap (λ n. times_root n y) apart ∙ e ∙ sym same)))
  | inr h ↦ h
]

-- z times w: each coefficient moves up by one, and the last comes back with its sign turned
abbrev pub turned : Omega → Omega
turned z = record { a = neg_ℤ z.d; b = z.a; c = z.b; d = z.c }

unit_times : (z : Omega) → product unit z ≡ turned z
unfolding product
unit_times z = same_number _ _ (omega (arith, ints)) (omega (arith, ints)) (omega (arith, ints)) (omega (arith, ints))

pub one_times : (z : Omega) → product one z ≡ z
unfolding product
one_times z = same_number _ _ (omega (arith, ints)) (omega (arith, ints)) (omega (arith, ints)) (omega (arith, ints))

-- z times w, n times over
abbrev pub turned_by : ℕ → Omega → Omega
turned_by zero z = z
turned_by (suc n) z = turned (turned_by n z)

pub unit_power_times : (n : ℕ) (z : Omega) → product (unit_power n) z ≡ turned_by n z
unit_power_times zero z = one_times z
unit_power_times (suc n) z = product_assoc unit (unit_power n) z ∙ unit_times _ ∙ ap turned (unit_power_times n z)

-- the number at a power of w that is known to be n
pub at_power : (j n : ℕ) (z r : Omega) → j ≡ n → r ≡ turned_by n z → r ≡ product (unit_power j) z
at_power j n z r e h = h ∙ sym (unit_power_times n z) ∙ ap (λ m. product (unit_power m) z) (sym e)

-- what the root divides has even differences
pub root_even : (z q : Omega) → product root q ≡ z → (z.a -ℤ z.c ≡ neg_ℤ (q.d +ℤ q.d)) × (z.b -ℤ z.d ≡ q.a +ℤ q.a)
root_even z q e =
    let h = sym e ∙ root_times q in
    let ea : z.a ≡ q.b -ℤ q.d = ap (λ (x : Omega). x.a) h in
    let eb : z.b ≡ q.a +ℤ q.c = ap (λ (x : Omega). x.b) h in
    let ec : z.c ≡ q.b +ℤ q.d = ap (λ (x : Omega). x.c) h in
    let ed : z.d ≡ q.c -ℤ q.a = ap (λ (x : Omega). x.d) h in
    (omega (arith, ints), omega (arith, ints))

pub root_of_halves : (z q : Omega) → q.a +ℤ q.a ≡ z.b -ℤ z.d → q.b +ℤ q.b ≡ z.a +ℤ z.c → q.c +ℤ q.c ≡ z.b +ℤ z.d → q.d +ℤ q.d ≡ z.c -ℤ z.a → product root q ≡ z
root_of_halves z q ha hb hc hd = root_times q ∙ same_number _ _ (omega (arith, ints)) (omega (arith, ints)) (omega (arith, ints)) (omega (arith, ints))

-- one more step of the division
pub times_root_step : (k power : ℕ) (z rest q : Omega) → 0 < power → power ≤ k → times_root (k - power) rest ≡ z → product root q ≡ rest → times_root (k - (power - 1)) q ≡ z
times_root_step k power z rest q some below same e =
    let n : k - (power - 1) ≡ (k - power) + 1 = omega arith in
    ap (λ m. times_root m q) n ∙ times_root_add (k - power) 1 q ∙ ap (times_root (k - power)) e ∙ same

-- the product by its rows
pub combined_is : (x y : Omega) → combined (scaled_by x.a y) (scaled_by x.b y) (scaled_by x.c y) (scaled_by x.d y) ≡ product x y
unfolding product
combined_is x y = refl

pub combined_same : {p p' q q' r r' s s' : Omega} → p ≡ p' → q ≡ q' → r ≡ r' → s ≡ s' → combined p q r s ≡ combined p' q' r' s'
combined_same e f g h = cc

-- what the code reads back of a coefficient, and of its negation
pub stored : (x : ℤ) → IsBelow 92 x → to_z w128 (of_z w128 x) ≡ x
stored x h = omega (arith, ints)

pub stored_negated : (x : ℤ) → IsBelow 92 x → to_z w128 (of_z w128 (pos 0 -ℤ x)) ≡ neg_ℤ x
stored_negated x h = omega (arith, ints)

pub negated_below : (x : ℤ) → IsBelow 92 x → IsBelow 92 (to_z w128 (of_z w128 (pos 0 -ℤ to_z w128 (of_z w128 x))))
negated_below x h = omega (arith, ints)

pub within_turned : (n : ℕ) (z : Omega) → IsWithin n z → IsWithin n (turned z)
within_turned n z h =
    let ha = h.a in let hb = h.b in let hc = h.c in let hd = h.d in
    record { a = omega (arith, ints); b = ha; c = hb; d = hc }

within_turned_by : (n j : ℕ) (z : Omega) → IsWithin n z → IsWithin n (turned_by j z)
within_turned_by n zero z h = h
within_turned_by n (suc j) z h = within_turned n (turned_by j z) (within_turned_by n j z h)

-- a power of w keeps the bound
pub within_unit_power : (n j : ℕ) (z r : Omega) → IsWithin n z → r ≡ product (unit_power j) z → IsWithin n r
within_unit_power n j z r h e =
    let P : Omega → Type 0 = λ x. IsWithin n x in
    subst P (sym (unit_power_times j z) ∙ sym e) (within_turned_by n j z h)

pub nothing_times : (z : Omega) → product nothing z ≡ nothing
unfolding product
nothing_times z = same_number _ _ (omega (arith, ints)) (omega (arith, ints)) (omega (arith, ints)) (omega (arith, ints))
