-- Whether all lanes are even: the lowest bit of each word is 0.
use Rattle.std.proofs.Common.{◌≡◌, ℕ, zero, suc, ◌+◌, ◌-◌, ◌*◌, ◌%◌, ◌<◌, ◌≤◌, ◌^◌, ℤ, pos, negsuc, List, [], ◌∷◌, Bool, true, false, cond, map, length, refl, sym, ap, subst, ◌∙◌, arith, rules, replicate, get_or}
use Rattle.std.proofs.Math.Path.{ap₂}
use Rattle.std.specs.Prelude.{bit_and, nat_eq, IsTrue}
use Rattle.std.specs.Simd.Lanes.{zip2}
use Rattle.std.proofs.lemmas.Nat.{pow-add}
use Rattle.std.proofs.lemmas.Nat.Bits.{and_pow, bit_at_lowest}
use Rattle.std.proofs.lemmas.Bool.{eqb-true, eq-eqb}
use Rattle.std.proofs.lemmas.List.{get_or-map, length-map}
use Rattle.std.proofs.lemmas.Simd.{bitmask_splat, get_or-zip2, length-zip2, length-replicate, get_or-replicate}
use Rattle.qh_ring.specs.Numbers.{IsBelow}
use Rattle.qh_kernel.specs.Lanes.{at_lane, AreBelow, IsEven}
use lib.Lanes.{mask_l, top}
use lib.Dec.{T, eqb}
use mir.Syntax.{Width, w8, w16, w32, w64, w128}
use mir.Val.{of_z, bits, hbits}

-- ---- a mask of ones
twice_one : (m k : ℕ) → 1 + 2 * m + 1 ≡ k * 2 → m + 1 ≡ k
twice_one m k e = omega arith

one_twice : (m k : ℕ) → m + 1 ≡ k → 1 + 2 * m + 1 ≡ k * 2
one_twice m k e = omega arith

odd_even : (m k : ℕ) → 0 + 2 * m + 1 ≡ k * 2 → ⊥
odd_even m k e = omega arith

next_power : (n : ℕ) → 2 ^ suc n ≡ 2 ^ n * 2
next_power n = let s : suc n ≡ n + 1 = omega arith in ap (λ k. 2 ^ k) s ∙ pow-add 2 n 1

mask_full : (ms : List Bool) → mask_l ms + 1 ≡ 2 ^ length ms → (r : ℕ) → r < length ms → get_or ms r false ≡ true
mask_full [] e r l = absurd (omega arith)
mask_full (true ∷ ms) e zero l = refl
mask_full (true ∷ ms) e (suc r) l = mask_full ms (twice_one (mask_l ms) (2 ^ length ms) (e ∙ next_power (length ms))) r (omega arith)
mask_full (false ∷ ms) e r l = absurd (odd_even (mask_l ms) (2 ^ length ms) (e ∙ next_power (length ms)))

full_mask : (ms : List Bool) → ((r : ℕ) → r < length ms → get_or ms r false ≡ true) → mask_l ms + 1 ≡ 2 ^ length ms
full_mask [] h = refl
full_mask (true ∷ ms) h = one_twice (mask_l ms) (2 ^ length ms) (full_mask ms (λ r l. h (suc r) (omega arith))) ∙ sym (next_power (length ms))
full_mask (false ∷ ms) h = absurd (no (h 0 (omega arith)))
  where
    no : false ≡ true → ⊥
    no e = subst T (sym e) tt

-- ---- the lowest bit of a word
lowest_bit : (n : ℕ) → bit_and n 1 ≡ n % 2
lowest_bit n = and_pow n 0 ∙ ap (λ k. k * 1) (bit_at_lowest n) ∙ omega arith

word_parity : (w : Width) (x : ℤ) → IsBelow (hbits w) x → (of_z w x % 2 ≡ 0 → IsEven x) × (IsEven x → of_z w x % 2 ≡ 0)
word_parity w8 (pos n) h = (λ e. e, λ e. e)
word_parity w16 (pos n) h = (λ e. e, λ e. e)
word_parity w32 (pos n) h = (λ e. e, λ e. e)
word_parity w64 (pos n) h = (λ e. e, λ e. e)
word_parity w128 (pos n) h = (λ e. e, λ e. e)
word_parity w8 (negsuc n) h = (λ e. omega arith, λ e. omega arith)
word_parity w16 (negsuc n) h = (λ e. omega arith, λ e. omega arith)
word_parity w32 (negsuc n) h = (λ e. omega arith, λ e. omega arith)
word_parity w64 (negsuc n) h = (λ e. omega arith, λ e. omega arith)
word_parity w128 (negsuc n) h = (λ e. omega arith, λ e. omega arith)

-- the lowest bits of the words
abbrev low_bits : Width → ℕ → List ℤ → List ℕ
low_bits w n v = zip2 bit_and (map (of_z w) v) (replicate n 1)

-- the mask of the lanes whose lowest bit is 0
abbrev pub even_mask : Width → ℕ → List ℤ → ℕ
even_mask w n v = mask_l (map (top (hbits w)) (zip2 (λ a b. cond (eqb a b) (2 ^ bits w - 1) 0) (low_bits w n v) (replicate n 0))) % 2 ^ 64

abbrev are_low : Width → ℕ → List ℤ → List Bool
are_low w n v = map (λ a. eqb a 0) (low_bits w n v)

low_length : (w : Width) (n : ℕ) (v : List ℤ) → length v ≡ n → length (low_bits w n v) ≡ n
low_length w n v e = length-zip2 bit_and (map (of_z w) v) (replicate n 1) (length-map v (of_z w) ∙ e ∙ sym (length-replicate n 1)) ∙ length-map v (of_z w) ∙ e

low_lane : (w : Width) (n : ℕ) (v : List ℤ) (r : ℕ) → length v ≡ n → r < n → get_or (low_bits w n v) r 0 ≡ of_z w (at_lane v r) % 2
low_lane w n v r e l =
    let lx : length (map (of_z w) v) ≡ n = length-map v (of_z w) ∙ e in
    let ly : length (replicate {A = ℕ} n 1) ≡ n = length-replicate n 1 in
    get_or-zip2 bit_and (map (of_z w) v) (replicate n 1) r 0 0 0 (omega arith) (omega arith)
    ∙ ap₂ bit_and (get_or-map (of_z w) v r (pos 0) 0 (omega arith)) (get_or-replicate n r 1 0 l)
    ∙ lowest_bit (of_z w (at_lane v r))

low_test : (w : Width) (n : ℕ) (v : List ℤ) (r : ℕ) → length v ≡ n → r < n → get_or (are_low w n v) r false ≡ eqb (of_z w (at_lane v r) % 2) 0
low_test w n v r e l =
    let ll = low_length w n v e in
    get_or-map (λ a. eqb a 0) (low_bits w n v) r 0 false (omega arith) ∙ ap (λ a. eqb a 0) (low_lane w n v r e l)

are_low_length : (w : Width) (n : ℕ) (v : List ℤ) → length v ≡ n → length (are_low w n v) ≡ n
are_low_length w n v e = length-map (low_bits w n v) (λ a. eqb a 0) ∙ low_length w n v e

mask_is : (w : Width) (n : ℕ) (v : List ℤ) → n ≤ 64 → length v ≡ n → even_mask w n v ≡ mask_l (are_low w n v)
mask_is w n v few e = bitmask_splat w eqb (low_bits w n v) n 0 (low_length w n v e) few

pub even_lanes : (w : Width) (n : ℕ) (v : List ℤ) → n ≤ 64 → AreBelow n (hbits w) v → even_mask w n v + 1 ≡ 2 ^ n → (r : ℕ) → r < n → IsEven (at_lane v r)
even_lanes w n v few h e r l =
    let len = are_low_length w n v h.len in
    let full : mask_l (are_low w n v) + 1 ≡ 2 ^ length (are_low w n v) = ap (λ k. k + 1) (sym (mask_is w n v few h.len)) ∙ e ∙ ap (λ k. 2 ^ k) (sym len) in
    (word_parity w (at_lane v r) (h.each r l)).0
    (eqb-true (of_z w (at_lane v r) % 2) 0 (sym (low_test w n v r h.len l) ∙ mask_full (are_low w n v) full r (omega arith)))

pub even_mask_full : (w : Width) (n : ℕ) (v : List ℤ) → n ≤ 64 → AreBelow n (hbits w) v → ((r : ℕ) → r < n → IsEven (at_lane v r)) → even_mask w n v + 1 ≡ 2 ^ n
even_mask_full w n v few h even =
    let len = are_low_length w n v h.len in
    ap (λ k. k + 1) (mask_is w n v few h.len)
    ∙ full_mask (are_low w n v) (λ r l. low_test w n v r h.len (omega arith) ∙ eq-eqb (of_z w (at_lane v r) % 2) 0 ((word_parity w (at_lane v r) (h.each r (omega arith))).1 (even r (omega arith))))
    ∙ ap (λ k. 2 ^ k) len

-- the test of the mask
pub all_even : (w : Width) (n full : ℕ) (v : List ℤ) → n ≤ 64 → full + 1 ≡ 2 ^ n → AreBelow n (hbits w) v → IsTrue (nat_eq (even_mask w n v) full) → (r : ℕ) → r < n → IsEven (at_lane v r)
all_even w n full v few e h t =
    let same : even_mask w n v ≡ full = search rules in
    even_lanes w n v few h (ap (λ k. k + 1) same ∙ e)

pub all_set : (w : Width) (n full : ℕ) (v : List ℤ) → n ≤ 64 → full + 1 ≡ 2 ^ n → AreBelow n (hbits w) v → ((r : ℕ) → r < n → IsEven (at_lane v r)) → IsTrue (nat_eq (even_mask w n v) full)
all_set w n full v few e h even =
    let f = even_mask_full w n v few h even in
    let same : even_mask w n v ≡ full = omega arith in
    eq-eqb (even_mask w n v) full same
