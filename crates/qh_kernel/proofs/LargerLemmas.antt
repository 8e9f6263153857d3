-- The larger magnitude in each lane: a lane's magnitude is the greater of it and its negation.
use Rattle.std.proofs.Common.{◌≡◌, ℕ, ◌-◌, ◌<◌, ◌^◌, ℤ, pos, List, Bool, true, false, cond, map, max, length, refl, sym, ap, subst, ◌∙◌, arith, neg_ℤ, replicate, unsigned_abs, get_or}
use Rattle.std.proofs.Math.Path.{ap₂}
use Rattle.std.specs.Prelude.{int_lt}
use Rattle.std.specs.Int.{int_max}
use Rattle.std.specs.Simd.Lanes.{zip2}
use Rattle.std.proofs.lemmas.Int.{ints, clamps}
use Rattle.std.proofs.lemmas.List.{get_or-map, length-map}
use Rattle.std.proofs.lemmas.Simd.{tops_compared, get_or-sel_l, length-sel_l, get_or-zip2, length-zip2}
use Rattle.qh_ring.specs.Numbers.{IsBelow}
use Rattle.qh_kernel.specs.Lanes.{at_lane, AreBelow}
use Rattle.qh_kernel.proofs.WordLemmas.{word_back, word_difference, negations_lane, negations_length}
use lib.Lanes.{sel_l, top}
use mir.Syntax.{Width}
use mir.Val.{to_z, of_z, bits, hbits}

abbrev word_less : Width → ℕ → ℕ → Bool
word_less w m n = int_lt (to_z w m) (to_z w n)

-- in each lane the greater of two words
abbrev greater_words : Width → List ℕ → List ℕ → List ℕ
greater_words w xs ys = sel_l (map (top (hbits w)) (zip2 (λ a b. cond (word_less w a b) (2 ^ bits w - 1) 0) xs ys)) ys xs

-- the words of the negations, and of the magnitudes
abbrev negated_words : Width → ℕ → List ℤ → List ℕ
negated_words w n v = zip2 (word_difference w) (replicate n 0) (map (of_z w) v)

abbrev abs_words : Width → ℕ → List ℤ → List ℕ
abs_words w n v = greater_words w (map (of_z w) v) (negated_words w n v)

abbrev pub larger_lanes : Width → ℕ → List ℤ → List ℤ → List ℤ
larger_lanes w n xs ys = map (to_z w) (greater_words w (abs_words w n xs) (abs_words w n ys))

chosen_word : (w : Width) (t : Bool) (m k : ℕ) → to_z w (cond t k m) ≡ cond t (to_z w k) (to_z w m)
chosen_word w true m k = refl
chosen_word w false m k = refl

greater_length : (w : Width) (n : ℕ) (xs ys : List ℕ) → length xs ≡ n → length ys ≡ n → length (greater_words w xs ys) ≡ n
greater_length w n xs ys lx ly =
    let z : length (zip2 (word_less w) xs ys) ≡ n = length-zip2 (word_less w) xs ys (lx ∙ sym ly) ∙ lx in
    ap (λ ms. length (sel_l ms ys xs)) (tops_compared w (word_less w) xs ys)
    ∙ length-sel_l (zip2 (word_less w) xs ys) ys xs (z ∙ sym ly) (z ∙ sym lx) ∙ z

greater_lane : (w : Width) (n : ℕ) (xs ys : List ℕ) (r : ℕ) → length xs ≡ n → length ys ≡ n → r < n
    → to_z w (get_or (greater_words w xs ys) r 0) ≡ int_max (to_z w (get_or ys r 0)) (to_z w (get_or xs r 0))
greater_lane w n xs ys r lx ly l =
    let z : length (zip2 (word_less w) xs ys) ≡ n = length-zip2 (word_less w) xs ys (lx ∙ sym ly) ∙ lx in
    ap (to_z w) (ap (λ ms. get_or (sel_l ms ys xs) r 0) (tops_compared w (word_less w) xs ys)
    ∙ get_or-sel_l (zip2 (word_less w) xs ys) ys xs r 0 (omega arith) (omega arith) (omega arith)
    ∙ ap (λ t. cond t (get_or ys r 0) (get_or xs r 0)) (get_or-zip2 (word_less w) xs ys r 0 0 false (omega arith) (omega arith)))
    ∙ chosen_word w (word_less w (get_or xs r 0) (get_or ys r 0)) (get_or xs r 0) (get_or ys r 0)

abs_length : (w : Width) (n : ℕ) (v : List ℤ) → length v ≡ n → length (abs_words w n v) ≡ n
abs_length w n v e =
    greater_length w n (map (of_z w) v) (negated_words w n v) (length-map v (of_z w) ∙ e)
    (sym (length-map (negated_words w n v) (to_z w)) ∙ negations_length w n v e)

magnitude : (x : ℤ) → int_max (neg_ℤ x) x ≡ pos (unsigned_abs x)
magnitude x = omega (arith, ints, clamps)

greater_magnitude : (x y : ℤ) → int_max (pos (unsigned_abs y)) (pos (unsigned_abs x)) ≡ pos (max (unsigned_abs x) (unsigned_abs y))
greater_magnitude x y = omega (arith, ints, clamps)

abs_lane : (w : Width) (n : ℕ) (v : List ℤ) (r : ℕ) → AreBelow n (hbits w) v → r < n → to_z w (get_or (abs_words w n v) r 0) ≡ pos (unsigned_abs (at_lane v r))
abs_lane w n v r h l =
    let len = h.len in
    let ln : length (negated_words w n v) ≡ n = sym (length-map (negated_words w n v) (to_z w)) ∙ negations_length w n v h.len in
    greater_lane w n (map (of_z w) v) (negated_words w n v) r (length-map v (of_z w) ∙ h.len) ln l
    ∙ ap₂ int_max
    (sym (get_or-map (to_z w) (negated_words w n v) r 0 (pos 0) (omega arith)) ∙ negations_lane w n (hbits w) v (omega arith) h r l)
    (ap (to_z w) (get_or-map (of_z w) v r (pos 0) 0 (omega arith)) ∙ word_back w (at_lane v r) (h.each r l))
    ∙ magnitude (at_lane v r)

larger_lane : (w : Width) (n : ℕ) (xs ys : List ℤ) (r : ℕ) → AreBelow n (hbits w) xs → AreBelow n (hbits w) ys → r < n
    → at_lane (larger_lanes w n xs ys) r ≡ pos (max (unsigned_abs (at_lane xs r)) (unsigned_abs (at_lane ys r)))
larger_lane w n xs ys r h k l =
    let lx = abs_length w n xs h.len in
    let ly = abs_length w n ys k.len in
    let lz = greater_length w n (abs_words w n xs) (abs_words w n ys) lx ly in
    get_or-map (to_z w) (greater_words w (abs_words w n xs) (abs_words w n ys)) r 0 (pos 0) (omega arith)
    ∙ greater_lane w n (abs_words w n xs) (abs_words w n ys) r lx ly l
    ∙ ap₂ int_max (abs_lane w n ys r k l) (abs_lane w n xs r h l)
    ∙ greater_magnitude (at_lane xs r) (at_lane ys r)

larger_length : (w : Width) (n : ℕ) (xs ys : List ℤ) → AreBelow n (hbits w) xs → AreBelow n (hbits w) ys → length (larger_lanes w n xs ys) ≡ n
larger_length w n xs ys h k =
    length-map (greater_words w (abs_words w n xs) (abs_words w n ys)) (to_z w)
    ∙ greater_length w n (abs_words w n xs) (abs_words w n ys) (abs_length w n xs h.len) (abs_length w n ys k.len)

pub larger_above : (w : Width) (n : ℕ) (xs ys : List ℤ) → AreBelow n (hbits w) xs → AreBelow n (hbits w) ys
    → (b : ℕ) → AreBelow n b xs → AreBelow n b ys → AreBelow n b (larger_lanes w n xs ys)
larger_above w n xs ys h k b hx hy = record {
  len = larger_length w n xs ys h k;
  each = λ r l. subst (IsBelow b) (sym (larger_lane w n xs ys r h k l)) (let p = hx.each r l in let q = hy.each r l in omega arith);
}

pub first_below : (w : Width) (n : ℕ) (xs ys : List ℤ) → AreBelow n (hbits w) xs → AreBelow n (hbits w) ys
    → (b : ℕ) → AreBelow n b (larger_lanes w n xs ys) → AreBelow n b xs
first_below w n xs ys h k b g = record {
  len = h.len;
  each = λ r l. let e = subst (IsBelow b) (larger_lane w n xs ys r h k l) (g.each r l) in omega arith;
}

pub second_below : (w : Width) (n : ℕ) (xs ys : List ℤ) → AreBelow n (hbits w) xs → AreBelow n (hbits w) ys
    → (b : ℕ) → AreBelow n b (larger_lanes w n xs ys) → AreBelow n b ys
second_below w n xs ys h k b g = record {
  len = k.len;
  each = λ r l. let e = subst (IsBelow b) (larger_lane w n xs ys r h k l) (g.each r l) in omega arith;
}
