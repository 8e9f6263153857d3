-- The sum over all indices, taken in groups of those that differ at some qubits alone.
use Rattle.std.proofs.Common.{◌≡◌, ℕ, zero, suc, ◌+◌, ◌*◌, ◌^◌, ◌<◌, ◌≤◌, inl, inr, List, [], ◌∷◌, length, arith, refl, sym, ap, ◌∙◌}
use Rattle.std.proofs.Math.Path.{ap₂}
use Rattle.std.proofs.Math.Nat.{pow-succ'}
use Rattle.std.specs.Int.{bit_at}
use Rattle.std.proofs.lemmas.Int.{ints}
use Rattle.std.proofs.lemmas.Bool.{cases_eq}
use Rattle.qh_ring.specs.declared.number.Omega.{Omega}
use Rattle.qh_ring.specs.Numbers.{sum, product}
use Rattle.qh_ring.specs.States.{sum_below, with_bit, with_bits}
use Rattle.qh_ring.specs.Laws.{AllLess}
use Rattle.qh_ring.proofs.NumberLemmas.{same_number, product_sum}
use Rattle.qh_ring.proofs.SumLemmas.{nothing_sum, sum_sums, sum_below_same, sum_below_sum, sum_below_add}
use Rattle.qh_ring.proofs.BitLemmas.{with_top, with_low, bit_top, bit_low}

-- a number twice, n times over
abbrev pub many : ℕ → Omega → Omega
many zero z = z
many (suc n) z = many n (sum z z)

pub many_injective : (n : ℕ) (x y : Omega) → many n x ≡ many n y → x ≡ y
many_injective zero x y e = e
many_injective (suc n) x y e =
    let h = many_injective n (sum x x) (sum y y) e in
    let ea = ap (λ (z : Omega). z.a) h in
    let eb = ap (λ (z : Omega). z.b) h in
    let ec = ap (λ (z : Omega). z.c) h in
    let ed = ap (λ (z : Omega). z.d) h in
    same_number x y (omega (arith, ints)) (omega (arith, ints)) (omega (arith, ints)) (omega (arith, ints))

pub product_many : (n : ℕ) (x z : Omega) → product x (many n z) ≡ many n (product x z)
product_many zero x z = refl
product_many (suc n) x z = product_many n x (sum z z) ∙ ap (many n) (product_sum x z z)

-- two halves of a sum
halves : (n : ℕ) (f : ℕ → Omega) → sum_below (2 ^ suc n) f ≡ sum (sum_below (2 ^ n) f) (sum_below (2 ^ n) (λ k. f (2 ^ n + k)))
halves n f =
    let e : 2 ^ suc n ≡ 2 ^ n + 2 ^ n = let w = pow-succ' 2 n in omega arith in
    ap (λ k. sum_below k f) e ∙ sum_below_add (2 ^ n) (2 ^ n) f

-- the sum of the two numbers of an index's pair
abbrev pub pair_sum : ℕ → (ℕ → Omega) → ℕ → Omega
pair_sum q f x = sum (f (with_bit q 0 x)) (f (with_bit q 1 x))

low_set : (n b k : ℕ) → k < 2 ^ n → with_bit n b k ≡ k + b * 2 ^ n
low_set n b k l =
    let e : k ≡ k + 0 * 2 ^ n = omega arith in
    ap (with_bit n b) e ∙ with_top n 0 b k (omega arith) l

high_set : (n b k : ℕ) → k < 2 ^ n → with_bit n b (2 ^ n + k) ≡ k + b * 2 ^ n
high_set n b k l =
    let e : 2 ^ n + k ≡ k + 1 * 2 ^ n = omega arith in
    ap (with_bit n b) e ∙ with_top n 1 b k (omega arith) l

above_set : (q n b k : ℕ) → q < n → with_bit q b (2 ^ n + k) ≡ 2 ^ n + with_bit q b k
above_set q n b k l =
    let e : 2 ^ n + k ≡ k + 1 * 2 ^ n = omega arith in
    ap (with_bit q b) e ∙ with_low q n 1 b k l ∙ omega arith

-- over all indices, the pairs of one qubit hold each number twice
pub pairs : (n q : ℕ) (f : ℕ → Omega) → q < n → sum_below (2 ^ n) (pair_sum q f) ≡ sum (sum_below (2 ^ n) f) (sum_below (2 ^ n) f)
pairs zero q f l = absurd (omega arith)
pairs (suc n) q f l =
    let L = sum_below (2 ^ n) f in
    let H = sum_below (2 ^ n) (λ k. f (2 ^ n + k)) in
    halves n (pair_sum q f) ∙ (elim (cases_eq q n) [
      | inl e ↦
          ap₂ sum
          (sum_below_same (2 ^ n) _ _ (λ k b. ap₂ sum (ap f (at_low e 0 k b)) (ap f (at_low e 1 k b))) ∙ both n f)
          (sum_below_same (2 ^ n) _ _ (λ k b. ap₂ sum (ap f (at_high e 0 k b)) (ap f (at_high e 1 k b))) ∙ both n f)
          ∙ sym (ap₂ sum (halves n f) (halves n f))
      | inr ne ↦
          ap₂ sum (pairs n q f (omega arith))
          (sum_below_same (2 ^ n) _ _ (λ k b. ap₂ sum (ap f (above_set q n 0 k (omega arith))) (ap f (above_set q n 1 k (omega arith))))
          ∙ pairs n q (λ k. f (2 ^ n + k)) (omega arith))
          ∙ sum_sums L L H H
          ∙ sym (ap₂ sum (halves n f) (halves n f))
    ])
  where
    at_low : q ≡ n → (b k : ℕ) → k < 2 ^ n → with_bit q b k ≡ k + b * 2 ^ n
    at_low e b k l = ap (λ p. with_bit p b k) e ∙ low_set n b k l

    at_high : q ≡ n → (b k : ℕ) → k < 2 ^ n → with_bit q b (2 ^ n + k) ≡ k + b * 2 ^ n
    at_high e b k l = ap (λ p. with_bit p b (2 ^ n + k)) e ∙ high_set n b k l

    both : (n : ℕ) (f : ℕ → Omega) → sum_below (2 ^ n) (λ k. sum (f (k + 0 * 2 ^ n)) (f (k + 1 * 2 ^ n))) ≡ sum (sum_below (2 ^ n) f) (sum_below (2 ^ n) (λ k. f (2 ^ n + k)))
    both n f =
        sum_below_same (2 ^ n) _ _ (λ k b. ap₂ sum (ap f (first n k)) (ap f (second n k)))
        ∙ sum_below_sum (2 ^ n) f (λ k. f (2 ^ n + k))
      where
        first : (n k : ℕ) → k + 0 * 2 ^ n ≡ k
        first n k = omega arith

        second : (n k : ℕ) → k + 1 * 2 ^ n ≡ 2 ^ n + k
        second n k = omega arith

-- only the low bits of the setting matter
bits_low : (qs : List ℕ) (k a c x : ℕ) → length qs ≤ k → with_bits qs (c + a * 2 ^ k) x ≡ with_bits qs c x
bits_low [] k a c x h = refl
bits_low (q ∷ qs) k a c x h = ap₂ (with_bit q) (bit_low (length qs) k a c (omega arith)) (bits_low qs k a c x (omega arith))

-- a setting of one more qubit
low_setting : (q : ℕ) (qs : List ℕ) (c x : ℕ) → c < 2 ^ length qs → with_bits (q ∷ qs) c x ≡ with_bit q 0 (with_bits qs c x)
low_setting q qs c x l =
    let e : c ≡ c + 0 * 2 ^ length qs = omega arith in
    ap (λ b. with_bit q b (with_bits qs c x)) (ap (λ t. bit_at t (length qs)) e ∙ bit_top (length qs) 0 c (omega arith) l)

high_setting : (q : ℕ) (qs : List ℕ) (c x : ℕ) → c < 2 ^ length qs → with_bits (q ∷ qs) (2 ^ length qs + c) x ≡ with_bit q 1 (with_bits qs c x)
high_setting q qs c x l =
    let e : 2 ^ length qs + c ≡ c + 1 * 2 ^ length qs = omega arith in
    ap (λ t. with_bits (q ∷ qs) t x) e
    ∙ ap₂ (with_bit q) (bit_top (length qs) 1 c (omega arith) l) (bits_low qs (length qs) 1 c x (omega arith))

-- the sum over the settings of one more qubit
one_more : (q : ℕ) (qs : List ℕ) (f : ℕ → Omega) (x : ℕ)
    → sum_below (2 ^ length (q ∷ qs)) (λ c. f (with_bits (q ∷ qs) c x)) ≡ sum_below (2 ^ length qs) (λ c. pair_sum q f (with_bits qs c x))
one_more q qs f x =
    halves (length qs) (λ c. f (with_bits (q ∷ qs) c x))
    ∙ ap₂ sum
    (sum_below_same (2 ^ length qs) _ _ (λ c l. ap f (low_setting q qs c x l)))
    (sum_below_same (2 ^ length qs) _ _ (λ c l. ap f (high_setting q qs c x l)))
    ∙ sym (sum_below_sum (2 ^ length qs) (λ c. f (with_bit q 0 (with_bits qs c x))) (λ c. f (with_bit q 1 (with_bits qs c x))))

-- over all indices and all settings of some qubits, each number is met once a setting
pub spread : (n : ℕ) (qs : List ℕ) (f : ℕ → Omega) → AllLess n qs
    → sum_below (2 ^ n) (λ x. sum_below (2 ^ length qs) (λ c. f (with_bits qs c x))) ≡ many (length qs) (sum_below (2 ^ n) f)
spread n [] f h = sum_below_same (2 ^ n) _ _ (λ x l. nothing_sum (f x))
spread n (q ∷ qs) f h =
    sum_below_same (2 ^ n) _ _ (λ x l. one_more q qs f x)
    ∙ spread n qs (pair_sum q f) h.1
    ∙ ap (many (length qs)) (pairs n q f h.0)
