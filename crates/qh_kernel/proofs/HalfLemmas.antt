-- Halves of even lanes.
use Rattle.std.proofs.Common.{◌≡◌, ℕ, ◌<◌, ◌≤◌, ◌^◌, ℤ, pos, negsuc, List, map, length, sym, ap, subst, ◌∙◌, arith, ◌+ℤ◌, replicate}
use Rattle.std.proofs.Math.Path.{ap₂}
use Rattle.std.specs.Simd.Lanes.{zip2}
use Rattle.std.proofs.lemmas.Int.{ints}
use Rattle.std.proofs.lemmas.List.{get_or-map, length-map}
use Rattle.std.proofs.lemmas.Simd.{get_or-zip2, length-zip2, length-replicate, get_or-replicate}
use Rattle.qh_ring.specs.Numbers.{IsBelow}
use Rattle.qh_kernel.specs.Lanes.{at_lane, AreBelow, IsEven}
use Rattle.qh_kernel.proofs.WordLemmas.{word_back}
use Rattle.qh_kernel.proofs.BoundLemmas.{below_more}
use lib.Signed.{shr_z}
use mir.Syntax.{Width}
use mir.Val.{to_z, of_z, hbits}

abbrev pub word_shift : Width → ℕ → ℕ → ℕ
word_shift w m n = of_z w (shr_z (to_z w m) (2 ^ n))

half_twice : (z : ℤ) → IsEven z → shr_z z 2 +ℤ shr_z z 2 ≡ z
half_twice (pos n) e = omega (arith, ints)
half_twice (negsuc n) e = omega (arith, ints)

half_below : (b : ℕ) (z : ℤ) → IsEven z → IsBelow b z → IsBelow b (shr_z z 2)
half_below b (pos n) e h = omega (arith, ints)
half_below b (negsuc n) e h = omega (arith, ints)

halves_are : (w : Width) (n bits : ℕ) (xs : List ℤ) → bits ≤ hbits w → AreBelow n bits xs → ((r : ℕ) → r < n → IsEven (at_lane xs r)) → (r : ℕ) → r < n
    → at_lane (map (to_z w) (zip2 (word_shift w) (map (of_z w) xs) (replicate n 1))) r ≡ shr_z (at_lane xs r) 2
halves_are w n bits xs room h even r l =
    let e = h.len in
    let lx : length (map (of_z w) xs) ≡ n = length-map xs (of_z w) ∙ e in
    let ly : length (replicate {A = ℕ} n 1) ≡ n = length-replicate n 1 in
    let z : length (zip2 (word_shift w) (map (of_z w) xs) (replicate n 1)) ≡ n = length-zip2 (word_shift w) (map (of_z w) xs) (replicate n 1) (lx ∙ sym ly) ∙ lx in
    let k = below_more n bits (hbits w) xs room h in
    get_or-map (to_z w) (zip2 (word_shift w) (map (of_z w) xs) (replicate n 1)) r 0 (pos 0) (omega arith)
    ∙ ap (to_z w) (get_or-zip2 (word_shift w) (map (of_z w) xs) (replicate n 1) r 0 0 0 (omega arith) (omega arith)
    ∙ ap₂ (word_shift w) (get_or-map (of_z w) xs r (pos 0) 0 (omega arith)) (get_or-replicate n r 1 0 l)
    ∙ ap (λ t. of_z w (shr_z t 2)) (word_back w (at_lane xs r) (k.each r l)))
    ∙ word_back w (shr_z (at_lane xs r) 2) (half_below (hbits w) (at_lane xs r) (even r l) (k.each r l))

pub halves_lane : (w : Width) (n bits : ℕ) (xs : List ℤ) → bits ≤ hbits w → AreBelow n bits xs → ((r : ℕ) → r < n → IsEven (at_lane xs r)) → (r : ℕ) → r < n
    → at_lane (map (to_z w) (zip2 (word_shift w) (map (of_z w) xs) (replicate n 1))) r +ℤ at_lane (map (to_z w) (zip2 (word_shift w) (map (of_z w) xs) (replicate n 1))) r ≡ at_lane xs r
halves_lane w n bits xs room h even r l = let e = halves_are w n bits xs room h even r l in ap₂ (λ s t. s +ℤ t) e e ∙ half_twice (at_lane xs r) (even r l)

pub halves_below : (w : Width) (n bits : ℕ) (xs : List ℤ) → bits ≤ hbits w → AreBelow n bits xs → ((r : ℕ) → r < n → IsEven (at_lane xs r))
    → AreBelow n bits (map (to_z w) (zip2 (word_shift w) (map (of_z w) xs) (replicate n 1)))
halves_below w n bits xs room h even = record {
  len = length-map (zip2 (word_shift w) (map (of_z w) xs) (replicate n 1)) (to_z w)
      ∙ length-zip2 (word_shift w) (map (of_z w) xs) (replicate n 1) (length-map xs (of_z w) ∙ h.len ∙ sym (length-replicate n 1)) ∙ length-map xs (of_z w) ∙ h.len;
  each = λ r l. subst (IsBelow bits) (sym (halves_are w n bits xs room h even r l)) (half_below bits (at_lane xs r) (even r l) (h.each r l));
}
