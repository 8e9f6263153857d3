-- Roots that were taken out of the numbers of a state, and put back.
use Rattle.std.proofs.Common.{◌≡◌, ℕ, zero, suc, ◌+◌, ◌*◌, ◌/◌, ◌%◌, ◌^◌, ◌<◌, ◌≤◌, List, length, arith, sym, ap, subst, ◌∙◌, ℤ, pos, ◌+ℤ◌, ◌-ℤ◌, ◌*ℤ◌}
use Rattle.std.proofs.Math.Path.{ap₂}
use Rattle.std.specs.List.{All}
use Rattle.std.proofs.Math.Pow.{pow_mono}
use Rattle.std.specs.Int.{w128}
use Rattle.std.proofs.lemmas.Int.{ints, to_z_pos}
use Rattle.std.proofs.lemmas.Nat.{pow-add}
use Rattle.std.proofs.lemmas.List.{length-map, ext_get_or, get_or_default}
use Rattle.qh_ring.specs.declared.number.Omega.{Omega}
use Rattle.qh_ring.specs.Numbers.{IsBelow, IsWithin, product, root, sum, times_root, scaled_by, nothing}
use Rattle.qh_ring.specs.States.{at_index, applied_list}
use Rattle.qh_ring.proofs.NumberLemmas.{same_number, root_times, times_root_add}
use Rattle.qh_narrow.specs.Factor.{with_factor}
use Rattle.qh_blocks.proofs.FactorLemmas.{root_root}
use Rattle.qh_narrow.proofs.FactorLemmas.{at_factor, passes_factor, widens_by_half}
use Rattle.qh_half.specs.Halves.{IsVector}
use Rattle.qh_half.proofs.FormLemmas.{length_applied, within_more}
use mir.Val.{to_z, of_z}

-- ---- a number
-- 2 n roots are 2^n
twice : (k : ℕ) (x : ℤ) → pos k *ℤ x +ℤ pos k *ℤ x ≡ pos (k * 2) *ℤ x
twice k x = omega (arith, ints)

pub doubles : (n : ℕ) (z : Omega) → times_root (n + n) z ≡ scaled_by (pos (2 ^ n)) z
doubles zero z = same_number _ _ (omega (arith, ints)) (omega (arith, ints)) (omega (arith, ints)) (omega (arith, ints))
doubles (suc n) z =
    let e : suc n + suc n ≡ suc (suc (n + n)) = omega arith in
    let p : 2 ^ (n + 1) ≡ 2 ^ n * 2 = pow-add 2 n 1 in
    let s : suc n ≡ n + 1 = omega arith in
    let k : 2 ^ suc n ≡ 2 ^ n * 2 = ap (λ t. 2 ^ t) s ∙ p in
    let two : (x : ℤ) → pos (2 ^ n) *ℤ x +ℤ pos (2 ^ n) *ℤ x ≡ pos (2 ^ suc n) *ℤ x = λ x. twice (2 ^ n) x ∙ ap (λ t. pos t *ℤ x) (sym k) in
    ap (λ t. times_root t z) e ∙ root_root (times_root (n + n) z) ∙ ap (λ (t : Omega). sum t t) (doubles n z)
    ∙ same_number _ _ (two z.a) (two z.b) (two z.c) (two z.d)

-- what is within a bound after the root was so before
pub root_within : (n : ℕ) (z : Omega) → IsWithin n (product root z) → IsWithin n z
root_within n z h =
    let k : IsWithin n (record { a = z.b -ℤ z.d; b = z.a +ℤ z.c; c = z.b +ℤ z.d; d = z.c -ℤ z.a }) = subst (IsWithin n) (root_times z) h in
    let ka = k.a in let kb = k.b in let kc = k.c in let kd = k.d in
    record { a = omega (arith, ints); b = omega (arith, ints); c = omega (arith, ints); d = omega (arith, ints) }

-- ---- a number as the machine holds it
pub stored : (x : ℤ) → IsBelow 126 x → to_z w128 (of_z w128 x) ≡ x
stored x h = omega (arith, ints)

power_below : (n : ℕ) → n ≤ 96 → IsBelow 126 (pos (2 ^ n))
power_below n l = let p : 2 ^ n ≤ 2 ^ 96 = pow_mono l in omega arith

pub product_fits : (n : ℕ) (p x : ℤ) → n ≤ 96 → p ≡ pos (2 ^ n) → IsBelow 126 x → IsBelow 126 (pos (2 ^ n) *ℤ x) → IsBelow 126 (to_z w128 (of_z w128 p) *ℤ to_z w128 (of_z w128 x))
product_fits n p x l e h f = subst (IsBelow 126) (sym (ap₂ (λ s t. s *ℤ t) (ap (λ t. to_z w128 (of_z w128 t)) e ∙ stored (pos (2 ^ n)) (power_below n l)) (stored x h))) f

pub product_is : (n : ℕ) (p x y : ℤ) → n ≤ 96 → p ≡ pos (2 ^ n) → IsBelow 126 x → IsBelow 126 (pos (2 ^ n) *ℤ x) → y ≡ to_z w128 (of_z w128 p) *ℤ to_z w128 (of_z w128 x)
    → to_z w128 (of_z w128 y) ≡ pos (2 ^ n) *ℤ x
product_is n p x y l e h f t =
    let k : y ≡ pos (2 ^ n) *ℤ x = t ∙ ap₂ (λ s t. s *ℤ t) (ap (λ t. to_z w128 (of_z w128 t)) e ∙ stored (pos (2 ^ n)) (power_below n l)) (stored x h) in
    ap (λ t. to_z w128 (of_z w128 t)) k ∙ stored (pos (2 ^ n) *ℤ x) f

pub word_power : (n : ℕ) → n ≤ 96 → to_z w128 (1 * 2 ^ n % 340282366920938463463374607431768211456) ≡ pos (2 ^ n)
word_power n l =
    let p : 2 ^ n ≤ 2 ^ 96 = pow_mono l in
    let e : 1 * 2 ^ n % 340282366920938463463374607431768211456 ≡ 2 ^ n = omega arith in
    ap (to_z w128) e ∙ to_z_pos w128 (2 ^ n) (omega arith)

-- a sum or a difference of two coefficients, as the machine makes it
pub sum_fits : (x y : ℤ) → IsBelow 126 x → IsBelow 126 y → IsBelow 126 (x +ℤ y) → IsBelow 126 (to_z w128 (of_z w128 x) +ℤ to_z w128 (of_z w128 y))
sum_fits x y h k f = subst (IsBelow 126) (sym (ap₂ (λ s t. s +ℤ t) (stored x h) (stored y k))) f

pub sum_is : (x y z : ℤ) → IsBelow 126 x → IsBelow 126 y → IsBelow 126 (x +ℤ y) → z ≡ to_z w128 (of_z w128 x) +ℤ to_z w128 (of_z w128 y) → to_z w128 (of_z w128 z) ≡ x +ℤ y
sum_is x y z h k f e = ap (λ t. to_z w128 (of_z w128 t)) (e ∙ ap₂ (λ s t. s +ℤ t) (stored x h) (stored y k)) ∙ stored (x +ℤ y) f

pub difference_fits : (x y : ℤ) → IsBelow 126 x → IsBelow 126 y → IsBelow 126 (x -ℤ y) → IsBelow 126 (to_z w128 (of_z w128 x) -ℤ to_z w128 (of_z w128 y))
difference_fits x y h k f = subst (IsBelow 126) (sym (ap₂ (λ s t. s -ℤ t) (stored x h) (stored y k))) f

pub difference_is : (x y z : ℤ) → IsBelow 126 x → IsBelow 126 y → IsBelow 126 (x -ℤ y) → z ≡ to_z w128 (of_z w128 x) -ℤ to_z w128 (of_z w128 y) → to_z w128 (of_z w128 z) ≡ x -ℤ y
difference_is x y z h k f e = ap (λ t. to_z w128 (of_z w128 t)) (e ∙ ap₂ (λ s t. s -ℤ t) (stored x h) (stored y k)) ∙ stored (x -ℤ y) f

-- ---- a list
pub factors_add : (s r : ℕ) (v : List Omega) → with_factor (s + r) v ≡ with_factor s (with_factor r v)
factors_add s r v =
    ext_get_or nothing (with_factor (s + r) v) (with_factor s (with_factor r v))
    (length-map v (times_root (s + r)) ∙ sym (length-map (with_factor r v) (times_root s) ∙ length-map v (times_root r)))
    (λ k l. at_factor (s + r) v k ∙ times_root_add s r (at_index v k) ∙ ap (times_root s) (sym (at_factor r v k)) ∙ sym (at_factor s (with_factor r v) k))

pub same_factor : (s r : ℕ) (v w : List Omega) → with_factor r w ≡ v → with_factor (s + r) w ≡ with_factor s v
same_factor s r v w e = factors_add s r w ∙ ap (with_factor s) e

pub all_widened : (s bits n : ℕ) (v : List Omega) → bits + (s + 1) / 2 ≤ n → All (IsWithin bits) v → All (IsWithin n) (with_factor s v)
all_widened s bits n v l h i d b =
    let bv : i < length v = subst (λ t. i < t) (length-map v (times_root s)) b in
    subst (IsWithin n) (sym (get_or_default (with_factor s v) i d nothing b ∙ at_factor s v i))
    (within_more (bits + (s + 1) / 2) n (times_root s (at_index v i)) l (widens_by_half s bits (at_index v i) (h i nothing bv)))

-- a matrix on numbers out of which roots were taken
pub turned_numbers : (s r : ℕ) (m : ℕ → ℕ → Omega) (qs : List ℕ) (v x w : List Omega) → with_factor r x ≡ v → w ≡ applied_list m qs x
    → with_factor (s + r) w ≡ applied_list m qs (with_factor s v)
turned_numbers s r m qs v x w e t = ap (with_factor (s + r)) t ∙ sym (passes_factor m qs (s + r) x) ∙ ap (applied_list m qs) (same_factor s r v x e)

pub turned_vector : (qubits s r bits : ℕ) (m : ℕ → ℕ → Omega) (qs : List ℕ) (v x w : List Omega) → bits + (s + r + 1) / 2 ≤ 126 → IsVector qubits (with_factor s v)
    → with_factor r x ≡ v → w ≡ applied_list m qs x → All (IsWithin bits) w → IsVector qubits (with_factor (s + r) w)
turned_vector qubits s r bits m qs v x w l h e t b = record {
  len = ap length (turned_numbers s r m qs v x w e t) ∙ length_applied m qs (with_factor s v) ∙ h.len;
  within = all_widened (s + r) bits 126 w l b;
}

pub vector_of : (qubits s r : ℕ) (v x : List Omega) → IsVector qubits (with_factor s v) → with_factor r x ≡ v → IsVector qubits (with_factor (s + r) x)
vector_of qubits s r v x h e = subst (IsVector qubits) (sym (same_factor s r v x e)) h

-- one of its numbers, with the factor put back
pub fits_at : (qubits s : ℕ) (v : List Omega) (k : ℕ) → IsVector qubits (with_factor s v) → k < 2 ^ qubits → IsWithin 126 (times_root s (at_index v k))
fits_at qubits s v k h l = subst (IsWithin 126) (at_factor s v k) (h.within k nothing (subst (λ t. k < t) (sym h.len) l))

-- a matrix on numbers whose roots stay
pub moved_numbers : (s : ℕ) (m : ℕ → ℕ → Omega) (qs : List ℕ) (v w : List Omega) → w ≡ applied_list m qs v → with_factor s w ≡ applied_list m qs (with_factor s v)
moved_numbers s m qs v w t = ap (with_factor s) t ∙ sym (passes_factor m qs s v)

pub moved_vector : (qubits s bits : ℕ) (m : ℕ → ℕ → Omega) (qs : List ℕ) (v w : List Omega) → bits + (s + 1) / 2 ≤ 126 → IsVector qubits (with_factor s v) → w ≡ applied_list m qs v
    → All (IsWithin bits) w → IsVector qubits (with_factor s w)
moved_vector qubits s bits m qs v w l h t b = record {
  len = ap length (moved_numbers s m qs v w t) ∙ length_applied m qs (with_factor s v) ∙ h.len;
  within = all_widened s bits 126 w l b;
}
