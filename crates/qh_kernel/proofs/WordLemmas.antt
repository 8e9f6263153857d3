-- Sums and negations of lanes, which the machine holds as words of any width.
use Rattle.std.proofs.Common.{◌≡◌, ℕ, zero, suc, ◌<◌, ◌≤◌, ◌+◌, ◌*◌, ◌^◌, ℤ, pos, List, [], ◌∷◌, map, length, set, refl, sym, ap, subst, ◌∙◌, arith, ◌+ℤ◌, ◌-ℤ◌, neg_ℤ, FitsSigned, replicate, unsigned_abs}
use Rattle.std.proofs.Math.Path.{ap₂}
use Rattle.std.proofs.Math.Pow.{pow_mono}
use Rattle.std.proofs.lemmas.Nat.{pow-add, pow_pos}
use Rattle.std.specs.Int.{w64}
use Rattle.std.specs.Simd.Lanes.{Each1, Each2, zip2}
use Rattle.std.proofs.lemmas.Int.{ints, to_z-of_z, fits_signed_from_abs}
use Rattle.std.proofs.lemmas.List.{get_or-map, length-map}
use Rattle.std.proofs.lemmas.Simd.{Each1-from_get_or, get_or-zip2, length-zip2, length-replicate, get_or-replicate}
use Rattle.qh_ring.specs.Numbers.{IsBelow}
use Rattle.qh_kernel.specs.Lanes.{at_lane, AreBelow}
use Rattle.qh_kernel.proofs.BoundLemmas.{set_below}
use mir.Syntax.{Width}
use mir.Val.{to_z, of_z, hbits}

-- what the machine adds, and subtracts
abbrev pub word_sum : Width → ℕ → ℕ → ℕ
word_sum w m n = of_z w (to_z w m +ℤ to_z w n)

abbrev pub word_difference : Width → ℕ → ℕ → ℕ
word_difference w m n = of_z w (to_z w m -ℤ to_z w n)

abbrev words : Width → List ℤ → List ℕ
words w v = map (of_z w) v

pub word_back : (w : Width) (x : ℤ) → IsBelow (hbits w) x → to_z w (of_z w x) ≡ x
word_back w x b = to_z-of_z w x (fits_signed_from_abs w x b)

each_below : (n bits : ℕ) (v : List ℤ) → AreBelow n bits v → Each1 (IsBelow bits) v
each_below n bits v h = let e = h.len in Each1-from_get_or (IsBelow bits) v (pos 0) (λ r l. h.each r (omega arith))

back_each : (w : Width) (xs : List ℤ) → Each1 (IsBelow (hbits w)) xs → map (to_z w) (map (of_z w) xs) ≡ xs
back_each w [] a = refl
back_each w (x ∷ xs) a = ap₂ (λ y ys. y ∷ ys) (word_back w x a.0) (back_each w xs a.1)

-- a vector that was stored and read back
pub back : (w : Width) (n : ℕ) (v : List ℤ) → AreBelow n (hbits w) v → map (to_z w) (map (of_z w) v) ≡ v
back w n v h = back_each w v (each_below n (hbits w) v h)

less_than : (a b x : ℕ) (z : ℤ) → a ≤ b → unsigned_abs z < 2 ^ a → unsigned_abs z < 2 ^ b
less_than a b x z l h = let p : 2 ^ a ≤ 2 ^ b = pow_mono l in omega arith

within_word : (w : Width) (bits : ℕ) (x : ℤ) → bits ≤ hbits w → IsBelow bits x → IsBelow (hbits w) x
within_word w bits x l h = less_than bits (hbits w) 0 x l h

abs_sum : (a b : ℕ) (x y : ℤ) → a + 1 ≤ b → unsigned_abs x < 2 ^ a → unsigned_abs y < 2 ^ a → unsigned_abs (x +ℤ y) < 2 ^ b
abs_sum a b x y l h k =
    let p : 2 ^ (a + 1) ≤ 2 ^ b = pow_mono l in
    let d : 2 ^ (a + 1) ≡ 2 ^ a * 2 = pow-add 2 a 1 in
    omega (arith, ints)

abs_neg : (m : ℕ) (y : ℤ) → unsigned_abs y < m → unsigned_abs (pos 0 -ℤ y) < m
abs_neg m y h = omega (arith, ints)

word_zero : (w : Width) → to_z w 0 ≡ pos 0
word_zero w = word_back w (pos 0) (zero_below (hbits w))
  where
    zero_below : (b : ℕ) → 0 < 2 ^ b
    zero_below b = pow_pos b

sum_fits : (w : Width) (bits : ℕ) (x y : ℤ) → bits < hbits w → IsBelow bits x → IsBelow bits y → FitsSigned w (x +ℤ y)
sum_fits w bits x y l a b = fits_signed_from_abs w (x +ℤ y) (abs_sum bits (hbits w) x y (omega arith) a b)

neg_fits : (w : Width) (bits : ℕ) (y : ℤ) → bits ≤ hbits w → IsBelow bits y → FitsSigned w (pos 0 -ℤ y)
neg_fits w bits y l b = fits_signed_from_abs w (pos 0 -ℤ y) (abs_neg (2 ^ hbits w) y (within_word w bits y l b))

sum_read : (w : Width) (bits : ℕ) (x y : ℤ) → bits < hbits w → IsBelow bits x → IsBelow bits y → to_z w (of_z w x) +ℤ to_z w (of_z w y) ≡ x +ℤ y
sum_read w bits x y l a b = ap₂ (λ s t. s +ℤ t) (word_back w x (within_word w bits x (omega arith) a)) (word_back w y (within_word w bits y (omega arith) b))

difference_read : (w : Width) (bits : ℕ) (y : ℤ) → bits ≤ hbits w → IsBelow bits y → to_z w 0 -ℤ to_z w (of_z w y) ≡ pos 0 -ℤ y
difference_read w bits y l b = ap₂ (λ s t. s -ℤ t) (word_zero w) (word_back w y (within_word w bits y l b))

-- ---- no sum and no negation wraps
adds_each : (w : Width) (bits : ℕ) (xs ys : List ℤ) → bits < hbits w → Each1 (IsBelow bits) xs → Each1 (IsBelow bits) ys → Each2 (λ m n. FitsSigned w (to_z w m +ℤ to_z w n)) (map (of_z w) xs) (map (of_z w) ys)
adds_each w bits [] ys l a b = tt
adds_each w bits (x ∷ xs) [] l a b = tt
adds_each w bits (x ∷ xs) (y ∷ ys) l a b = (subst (FitsSigned w) (sym (sum_read w bits x y l a.0 b.0)) (sum_fits w bits x y l a.0 b.0), adds_each w bits xs ys l a.1 b.1)

pub adds : (w : Width) (n bits : ℕ) (xs ys : List ℤ) → bits < hbits w → AreBelow n bits xs → AreBelow n bits ys → Each2 (λ m n. FitsSigned w (to_z w m +ℤ to_z w n)) (map (of_z w) xs) (map (of_z w) ys)
adds w n bits xs ys l a b = adds_each w bits xs ys l (each_below n bits xs a) (each_below n bits ys b)

negs_each : (w : Width) (bits n : ℕ) (ys : List ℤ) → bits ≤ hbits w → Each1 (IsBelow bits) ys → Each2 (λ m n. FitsSigned w (to_z w m -ℤ to_z w n)) (replicate n 0) (map (of_z w) ys)
negs_each w bits zero ys l b = tt
negs_each w bits (suc n) [] l b = tt
negs_each w bits (suc n) (y ∷ ys) l b = (subst (FitsSigned w) (sym (difference_read w bits y l b.0)) (neg_fits w bits y l b.0), negs_each w bits n ys l b.1)

pub negs : (w : Width) (n bits : ℕ) (ys : List ℤ) → bits ≤ hbits w → AreBelow n bits ys → Each2 (λ m n. FitsSigned w (to_z w m -ℤ to_z w n)) (replicate n 0) (map (of_z w) ys)
negs w n bits ys l b = negs_each w bits n ys l (each_below n bits ys b)

-- ---- what each lane is
length_words : (w : Width) (n : ℕ) (xs : List ℤ) → length xs ≡ n → length (map (of_z w) xs) ≡ n
length_words w n xs e = length-map xs (of_z w) ∙ e

pub sums_length : (w : Width) (n : ℕ) (xs ys : List ℤ) → length xs ≡ n → length ys ≡ n → length (map (to_z w) (zip2 (word_sum w) (map (of_z w) xs) (map (of_z w) ys))) ≡ n
sums_length w n xs ys e f =
    length-map (zip2 (word_sum w) (map (of_z w) xs) (map (of_z w) ys)) (to_z w)
    ∙ length-zip2 (word_sum w) (map (of_z w) xs) (map (of_z w) ys) (length_words w n xs e ∙ sym (length_words w n ys f))
    ∙ length_words w n xs e

pub sums_lane : (w : Width) (n bits : ℕ) (xs ys : List ℤ) → bits < hbits w → AreBelow n bits xs → AreBelow n bits ys → (r : ℕ) → r < n
    → at_lane (map (to_z w) (zip2 (word_sum w) (map (of_z w) xs) (map (of_z w) ys))) r ≡ at_lane xs r +ℤ at_lane ys r
sums_lane w n bits xs ys room a b r l =
    let lx = length_words w n xs a.len in
    let ly = length_words w n ys b.len in
    let z : length (zip2 (word_sum w) (map (of_z w) xs) (map (of_z w) ys)) ≡ n = length-zip2 (word_sum w) (map (of_z w) xs) (map (of_z w) ys) (lx ∙ sym ly) ∙ lx in
    let ex = a.len in
    let ey = b.len in
    get_or-map (to_z w) (zip2 (word_sum w) (map (of_z w) xs) (map (of_z w) ys)) r 0 (pos 0) (omega arith)
    ∙ ap (to_z w) (get_or-zip2 (word_sum w) (map (of_z w) xs) (map (of_z w) ys) r 0 0 0 (omega arith) (omega arith)
    ∙ ap₂ (word_sum w) (get_or-map (of_z w) xs r (pos 0) 0 (omega arith)) (get_or-map (of_z w) ys r (pos 0) 0 (omega arith))
    ∙ ap (of_z w) (sum_read w bits (at_lane xs r) (at_lane ys r) room (a.each r l) (b.each r l)))
    ∙ to_z-of_z w (at_lane xs r +ℤ at_lane ys r) (sum_fits w bits (at_lane xs r) (at_lane ys r) room (a.each r l) (b.each r l))

pub negations_length : (w : Width) (n : ℕ) (ys : List ℤ) → length ys ≡ n → length (map (to_z w) (zip2 (word_difference w) (replicate n 0) (map (of_z w) ys))) ≡ n
negations_length w n ys f =
    length-map (zip2 (word_difference w) (replicate n 0) (map (of_z w) ys)) (to_z w)
    ∙ length-zip2 (word_difference w) (replicate n 0) (map (of_z w) ys) (length-replicate n 0 ∙ sym (length_words w n ys f))
    ∙ length-replicate n 0

minus : (y : ℤ) → pos 0 -ℤ y ≡ neg_ℤ y
minus y = omega (arith, ints)

pub negations_lane : (w : Width) (n bits : ℕ) (ys : List ℤ) → bits ≤ hbits w → AreBelow n bits ys → (r : ℕ) → r < n
    → at_lane (map (to_z w) (zip2 (word_difference w) (replicate n 0) (map (of_z w) ys))) r ≡ neg_ℤ (at_lane ys r)
negations_lane w n bits ys room b r l =
    let lx : length (replicate {A = ℕ} n 0) ≡ n = length-replicate n 0 in
    let ly = length_words w n ys b.len in
    let z : length (zip2 (word_difference w) (replicate n 0) (map (of_z w) ys)) ≡ n = length-zip2 (word_difference w) (replicate n 0) (map (of_z w) ys) (lx ∙ sym ly) ∙ lx in
    let ey = b.len in
    get_or-map (to_z w) (zip2 (word_difference w) (replicate n 0) (map (of_z w) ys)) r 0 (pos 0) (omega arith)
    ∙ ap (to_z w) (get_or-zip2 (word_difference w) (replicate n 0) (map (of_z w) ys) r 0 0 0 (omega arith) (omega arith)
    ∙ ap₂ (word_difference w) (get_or-replicate n r 0 0 l) (get_or-map (of_z w) ys r (pos 0) 0 (omega arith))
    ∙ ap (of_z w) (difference_read w bits (at_lane ys r) room (b.each r l)))
    ∙ to_z-of_z w (pos 0 -ℤ at_lane ys r) (neg_fits w bits (at_lane ys r) room (b.each r l)) ∙ minus (at_lane ys r)

-- ---- one lane
pub got : (w : Width) (n : ℕ) (v : List ℤ) (r : ℕ) → hbits w ≤ 63 → r < n → AreBelow n (hbits w) v
    → to_z w64 (of_z w64 (to_z w (of_z w (at_lane (map (to_z w) (map (of_z w) v)) r)))) ≡ at_lane v r
got w n v r small l h =
    let p : 2 ^ hbits w ≤ 2 ^ 63 = pow_mono small in
    let e = h.each r l in
    ap (λ u. to_z w64 (of_z w64 (to_z w (of_z w (at_lane u r))))) (back w n v h)
    ∙ ap (λ x. to_z w64 (of_z w64 x)) (word_back w (at_lane v r) e) ∙ word_back w64 (at_lane v r) (wider (hbits w) (at_lane v r) small e)
  where
    wider : (b : ℕ) (x : ℤ) → b ≤ 63 → unsigned_abs x < 2 ^ b → unsigned_abs x < 2 ^ 63
    wider b x l h = let p : 2 ^ b ≤ 2 ^ 63 = pow_mono l in omega arith

pub put : (w : Width) (n : ℕ) (v : List ℤ) (r : ℕ) (x y : ℤ) → r < n → AreBelow n (hbits w) v → IsBelow (hbits w) x → y ≡ x
    → map (to_z w) (map (of_z w) (set (map (to_z w) (map (of_z w) v)) r y)) ≡ set v r x
put w n v r x y l h b e =
    ap₂ (λ u z. map (to_z w) (map (of_z w) (set u r z))) (back w n v h) e
    ∙ back w n (set v r x) (set_below n (hbits w) v r x l h b)

-- a number read as 64 bits and stored in fewer
pub narrowed : (w : Width) (x : ℤ) → hbits w ≤ 63 → IsBelow (hbits w) x → to_z w (of_z w (to_z w64 (of_z w64 x))) ≡ x
narrowed w x small b = ap (λ t. to_z w (of_z w t)) (word_back w64 x (wider (hbits w) x small b)) ∙ word_back w x b
  where
    wider : (b : ℕ) (x : ℤ) → b ≤ 63 → unsigned_abs x < 2 ^ b → unsigned_abs x < 2 ^ 63
    wider b x l h = let p : 2 ^ b ≤ 2 ^ 63 = pow_mono l in omega arith
