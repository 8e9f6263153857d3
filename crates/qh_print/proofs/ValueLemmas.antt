-- Canonical values: there is one, and what is reduced can be shown.
use Rattle.std.proofs.Common.{◌≡◌, ℕ, zero, suc, ◌+◌, ◌-◌, ◌≤◌, List, [], ◌∷◌, ◌++◌, sym, ap, subst, ◌∙◌, arith, ◌+ℤ◌, ◌-ℤ◌}
use Rattle.std.proofs.lemmas.Int.{ints}
use Rattle.qh_ring.specs.declared.number.Omega.{Omega}
use Rattle.qh_ring.specs.declared.canon.Canon.{Canon}
use Rattle.qh_ring.specs.Numbers.{IsCanon, IsWithin, product, root, times_root}
use Rattle.qh_ring.proofs.NumberLemmas.{root_times, times_root_add, times_root_injective}
use Rattle.qh_print.specs.Output.{IsShowable, IsText, value_line}

pub one_canon : (z : Omega) (k : ℕ) (v w : Canon) → IsCanon z k v → IsCanon z k w → v ≡ w
one_canon z k v w a b =
    let low = a.least w.z w.k b.bounded b.same in
    let high = b.least v.z v.k a.bounded a.same in
    let power : v.k ≡ w.k = omega arith in
    let number : v.z ≡ w.z = times_root_injective (k - v.k) v.z w.z (a.same ∙ sym b.same ∙ ap (λ j. times_root (k - j) w.z) (sym power)) in
    λ i. record { z = number i; k = power i }

pub one_text_of : (n k : ℕ) (xs : List ℕ) (values : List Omega) (s t : List ℕ) → IsText n k xs values s → IsText n k xs values t → s ≡ t
one_text_of n k [] values s t d e = d ∙ sym e
one_text_of n k (x ∷ xs) [] s t d e = absurd d
one_text_of n k (x ∷ xs) (z ∷ zs) s t d e =
    let v = one_canon z k d.0 e.0 d.2 e.2 in
    let rest = one_text_of n k xs zs d.1 e.1 d.3 e.3 in
    d.4 ∙ ap (λ w. value_line n x w ++ d.1) v ∙ ap (λ r. value_line n x e.0 ++ r) rest ∙ sym e.4

-- a number over the square root of 2 has no larger coefficients
half_within : (n : ℕ) (q z : Omega) → product root q ≡ z → IsWithin n z → IsWithin n q
half_within n q z e w =
    let h = sym (root_times q) ∙ e in
    let ea : q.b -ℤ q.d ≡ z.a = ap (λ (x : Omega). x.a) h in
    let eb : q.a +ℤ q.c ≡ z.b = ap (λ (x : Omega). x.b) h in
    let ec : q.b +ℤ q.d ≡ z.c = ap (λ (x : Omega). x.c) h in
    let ed : q.c -ℤ q.a ≡ z.d = ap (λ (x : Omega). x.d) h in
    let wa = w.a in let wb = w.b in let wc = w.c in let wd = w.d in
    record { a = omega (arith, ints); b = omega (arith, ints); c = omega (arith, ints); d = omega (arith, ints) }

root_within : (n m : ℕ) (q : Omega) → IsWithin n (times_root m q) → IsWithin n q
root_within n zero q h = h
root_within n (suc m) q h = root_within n m q (half_within n (times_root m q) (product root (times_root m q)) (λ i. product root (times_root m q)) h)

-- a canonical form is its own canonical form
own_canon : (z : Omega) (k : ℕ) (v : Canon) → IsCanon z k v → IsCanon v.z v.k v
own_canon z k v h = record {
  bounded = omega arith;
  same = let none : v.k - v.k ≡ 0 = omega arith in ap (λ n. times_root n v.z) none;
  least = λ y j l same.
      let within = h.bounded in
      let split : k - j ≡ (k - v.k) + (v.k - j) = omega arith in
      h.least y j (omega arith) (ap (λ n. times_root n y) split ∙ times_root_add (k - v.k) (v.k - j) y ∙ ap (times_root (k - v.k)) same ∙ h.same);
}

-- the canonical form of a number within 126 bits over at most sqrt 2 ^ 4096 can be shown
pub canon_showable : (z : Omega) (k : ℕ) (v : Canon) → IsWithin 126 z → k ≤ 4096 → IsCanon z k v → IsShowable v
canon_showable z k v w l h = record {
  bounded = root_within 126 (k - v.k) v.z (subst (IsWithin 126) (sym h.same) w);
  shallow = let b = h.bounded in omega arith;
  canonical = own_canon z k v h;
}
