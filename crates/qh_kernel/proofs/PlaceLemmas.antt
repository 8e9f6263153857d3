-- Indices by rank: the pairs and quads of indices that differ at a gate's qubits alone, numbered from below.
use Rattle.std.proofs.Common.{◌≡◌, ◌≢◌, ℕ, zero, suc, ◌+◌, ◌-◌, ◌*◌, ◌/◌, ◌%◌, ◌^◌, ◌<◌, ◌≤◌, ◌⊎◌, inl, inr, List, [], ◌∷◌, length, get_or, arith, sym, ap, ◌∙◌}
use Rattle.std.proofs.Math.Path.{ap₂}
use Rattle.std.proofs.lemmas.Bool.{cases_eq}
use Rattle.std.proofs.lemmas.Nat.{pow_pos, pow-add, mod_below, div-mul-add, mod-mul-add, div-add-mod', div_below, mul-le}
use Rattle.std.proofs.lemmas.Nat.Bits.{same_from_bits}
use Rattle.std.specs.Int.{bit_at}
use Rattle.qh_ring.specs.States.{with_bit, with_bits}
use Rattle.qh_ring.proofs.PairLemmas.{pair_of}
use Rattle.qh_ring.proofs.BitLemmas.{bit_same, bit_other, with_bit_below, with_low}
use Rattle.qh_kernel.specs.Places.{with_gap}

-- the index without its place q
abbrev pub rank : ℕ → ℕ → ℕ
rank q k = k / 2 ^ q / 2 * 2 ^ q + k % 2 ^ q

index_of_rank : (k q : ℕ) → k ≡ with_gap q (rank q k) + bit_at k q * 2 ^ q
index_of_rank k q =
    let p = rank q k in
    let below : k % 2 ^ q < 2 ^ q = mod_below k (2 ^ q) (pow_pos q) in
    let d : rank q k / 2 ^ q ≡ k / 2 ^ q / 2 = div-mul-add (k / 2 ^ q / 2) (2 ^ q) (k % 2 ^ q) below in
    let m : rank q k % 2 ^ q ≡ k % 2 ^ q = mod-mul-add (k / 2 ^ q / 2) (2 ^ q) (k % 2 ^ q) below in
    let s : 2 * (rank q k / 2 ^ q) * 2 ^ q ≡ 2 * (k / 2 ^ q / 2) * 2 ^ q = ap (λ n. 2 * n * 2 ^ q) d in
    let x = pair_of k q in
    omega arith

rank_gap : (q p : ℕ) → rank q (with_gap q p) ≡ p
rank_gap q p =
    let below : p % 2 ^ q < 2 ^ q = mod_below p (2 ^ q) (pow_pos q) in
    let d : with_gap q p / 2 ^ q ≡ 2 * (p / 2 ^ q) = div-mul-add (2 * (p / 2 ^ q)) (2 ^ q) (p % 2 ^ q) below in
    let m : with_gap q p % 2 ^ q ≡ p % 2 ^ q = mod-mul-add (2 * (p / 2 ^ q)) (2 ^ q) (p % 2 ^ q) below in
    let h : 2 * (p / 2 ^ q) / 2 ≡ p / 2 ^ q = omega arith in
    let g : with_gap q p / 2 ^ q / 2 ≡ p / 2 ^ q = ap (λ n. n / 2) d ∙ h in
    let s : with_gap q p / 2 ^ q / 2 * 2 ^ q ≡ p / 2 ^ q * 2 ^ q = ap (λ n. n * 2 ^ q) g in
    let w = div-add-mod' p (2 ^ q) in
    omega arith

-- an index with its place q cleared
cleared : (q k : ℕ) → with_bit q 0 k ≡ with_gap q (rank q k)
unfolding with_bit
cleared q k = let e = index_of_rank k q in omega arith

power_below : (n q : ℕ) → q < n → 2 ^ n ≡ 2 ^ (n - 1 - q) * 2 ^ q * 2
power_below n q l =
    let e : n ≡ (n - 1 - q) + q + 1 = omega arith in
    ap (λ k. 2 ^ k) e ∙ pow-add 2 ((n - 1 - q) + q) 1 ∙ ap (λ k. k * 2) (pow-add 2 (n - 1 - q) q)

-- both indices of a pair are within the vector
pub gap_within : (n q p : ℕ) → q < n → 2 * p < 2 ^ n → with_gap q p + 2 ^ q < 2 ^ n
gap_within n q p l h =
    let below : p % 2 ^ q < 2 ^ q = mod_below p (2 ^ q) (pow_pos q) in
    let w = power_below n q l in
    let d : p / 2 ^ q < 2 ^ (n - 1 - q) = div_below p (2 ^ q) (2 ^ (n - 1 - q)) (pow_pos q) (omega arith) in
    let r : (p / 2 ^ q + 1) * 2 ^ q ≤ 2 ^ (n - 1 - q) * 2 ^ q = mul-le (p / 2 ^ q + 1) (2 ^ q) (2 ^ (n - 1 - q)) (2 ^ q) (omega arith) (omega arith) in
    omega arith

pub rank_within : (n q k : ℕ) → q < n → k < 2 ^ n → 2 * rank q k < 2 ^ n
rank_within n q k l h =
    let below : k % 2 ^ q < 2 ^ q = mod_below k (2 ^ q) (pow_pos q) in
    let w = power_below n q l in
    let d : k / 2 ^ q < 2 * 2 ^ (n - 1 - q) = div_below k (2 ^ q) (2 * 2 ^ (n - 1 - q)) (pow_pos q) (omega arith) in
    let r : (k / 2 ^ q / 2 + 1) * 2 ^ q ≤ 2 ^ (n - 1 - q) * 2 ^ q = mul-le (k / 2 ^ q / 2 + 1) (2 ^ q) (2 ^ (n - 1 - q)) (2 ^ q) (omega arith) (omega arith) in
    omega arith

pub power_twice : (n : ℕ) → 0 < n → 2 ^ n ≡ 2 * 2 ^ (n - 1)
power_twice n l =
    let e : n ≡ (n - 1) + 1 = omega arith in
    let w : 2 ^ n ≡ 2 ^ (n - 1) * 2 = ap (λ k. 2 ^ k) e ∙ pow-add 2 (n - 1) 1 in
    omega arith

-- ---- groups: of these qubits, group number p has the index x with all of them 0
pub record IsGroup (qs : List ℕ) (number : ℕ → ℕ) (x p : ℕ) : Type 0 where
  pub base : with_bits qs 0 x ≡ x
  pub here : (k : ℕ) → number k ≡ p → with_bits qs 0 k ≡ x
  pub there : (k : ℕ) → with_bits qs 0 k ≡ x → number k ≡ p

pub one_group : (q p : ℕ) → IsGroup (q ∷ []) (rank q) (with_gap q p) p
one_group q p = record {
  base = cleared q (with_gap q p) ∙ ap (with_gap q) (rank_gap q p);
  here = λ k e. cleared q k ∙ ap (with_gap q) e;
  there = λ k e. sym (rank_gap q (rank q k)) ∙ ap (rank q) (sym (cleared q k) ∙ e) ∙ rank_gap q p;
}

-- a place below the gap
below_gap : (a b j : ℕ) → a < b → with_bit a 0 (with_gap b j) ≡ with_gap b (with_bit a 0 j)
below_gap a b j l =
    let low : j % 2 ^ b < 2 ^ b = mod_below j (2 ^ b) (pow_pos b) in
    let w : with_bit a 0 (j % 2 ^ b) < 2 ^ b = with_bit_below a b 0 (j % 2 ^ b) (omega arith) l low in
    let h : j / 2 ^ b * 2 ^ b + j % 2 ^ b ≡ j = div-add-mod' j (2 ^ b) in
    let e : with_bit a 0 j ≡ j / 2 ^ b * 2 ^ b + with_bit a 0 (j % 2 ^ b) =
    ap (with_bit a 0) (sym h ∙ turn (j / 2 ^ b * 2 ^ b) (j % 2 ^ b)) ∙ with_low a b (j / 2 ^ b) 0 (j % 2 ^ b) l ∙ turn (with_bit a 0 (j % 2 ^ b)) (j / 2 ^ b * 2 ^ b) in
    let d : with_bit a 0 j / 2 ^ b ≡ j / 2 ^ b = ap (λ n. n / 2 ^ b) e ∙ div-mul-add (j / 2 ^ b) (2 ^ b) (with_bit a 0 (j % 2 ^ b)) w in
    let m : with_bit a 0 j % 2 ^ b ≡ with_bit a 0 (j % 2 ^ b) = ap (λ n. n % 2 ^ b) e ∙ mod-mul-add (j / 2 ^ b) (2 ^ b) (with_bit a 0 (j % 2 ^ b)) w in
    ap (with_bit a 0) (turn (2 * (j / 2 ^ b) * 2 ^ b) (j % 2 ^ b)) ∙ with_low a b (2 * (j / 2 ^ b)) 0 (j % 2 ^ b) l
    ∙ turn (with_bit a 0 (j % 2 ^ b)) (2 * (j / 2 ^ b) * 2 ^ b)
    ∙ ap₂ (λ s t. 2 * s * 2 ^ b + t) (sym d) (sym m)
  where
    turn : (m n : ℕ) → m + n ≡ n + m
    turn m n = omega arith

-- the index without its places a and b, where a is below b
abbrev pub rank2 : ℕ → ℕ → ℕ → ℕ
rank2 a b k = rank a (rank b k)

cleared2 : (a b k : ℕ) → a < b → with_bit a 0 (with_bit b 0 k) ≡ with_gap b (with_gap a (rank2 a b k))
cleared2 a b k l = ap (with_bit a 0) (cleared b k) ∙ below_gap a b (rank b k) l ∙ ap (with_gap b) (cleared a (rank b k))

-- two places may be cleared in either order
either_order : (a b k : ℕ) → a ≢ b → with_bit b 0 (with_bit a 0 k) ≡ with_bit a 0 (with_bit b 0 k)
either_order a b k ne = same_from_bits _ _ (λ i. elim (cases_eq i a) [
  | inl e ↦ rw e (bit_other b a 0 (with_bit a 0 k) (omega arith) ne ∙ bit_same a 0 k (omega arith) ∙ sym (bit_same a 0 (with_bit b 0 k) (omega arith)))
  | inr na ↦ elim (cases_eq i b) [
    | inl e ↦ rw e (bit_same b 0 (with_bit a 0 k) (omega arith) ∙ sym (bit_same b 0 k (omega arith)) ∙ sym (bit_other a b 0 (with_bit b 0 k) (omega arith) (λ f. ne (sym f))))
    | inr nb ↦ bit_other b i 0 (with_bit a 0 k) (omega arith) nb ∙ bit_other a i 0 k (omega arith) na ∙ sym (bit_other b i 0 k (omega arith) nb) ∙ sym (bit_other a i 0 (with_bit b 0 k) (omega arith) na)
  ]
])

-- the two qubits of a gate, the lower and the higher
pub record AreBoth (q0 q1 near far : ℕ) : Type 0 where
  pub order : near < far
  pub which : ((near ≡ q0) × (far ≡ q1)) ⊎ ((near ≡ q1) × (far ≡ q0))

cleared_both : (q0 q1 near far k : ℕ) → AreBoth q0 q1 near far → with_bits (q0 ∷ q1 ∷ []) 0 k ≡ with_gap far (with_gap near (rank2 near far k))
cleared_both q0 q1 near far k h = elim h.which [
  | inl e ↦ ap₂ (λ a b. with_bit a 0 (with_bit b 0 k)) (sym e.0) (sym e.1) ∙ cleared2 near far k h.order
  | inr e ↦ ap₂ (λ a b. with_bit a 0 (with_bit b 0 k)) (sym e.1) (sym e.0) ∙ either_order near far k (let o = h.order in omega arith) ∙ cleared2 near far k h.order
]

rank2_gaps : (a b p : ℕ) → rank2 a b (with_gap b (with_gap a p)) ≡ p
rank2_gaps a b p = ap (rank a) (rank_gap b (with_gap a p)) ∙ rank_gap a p

pub two_group : (q0 q1 near far p : ℕ) → AreBoth q0 q1 near far → IsGroup (q0 ∷ q1 ∷ []) (rank2 near far) (with_gap far (with_gap near p)) p
two_group q0 q1 near far p h = record {
  base = cleared_both q0 q1 near far (with_gap far (with_gap near p)) h ∙ ap (λ n. with_gap far (with_gap near n)) (rank2_gaps near far p);
  here = λ k e. cleared_both q0 q1 near far k h ∙ ap (λ n. with_gap far (with_gap near n)) e;
  there = λ k e. sym (rank2_gaps near far (rank2 near far k)) ∙ ap (rank2 near far) (sym (cleared_both q0 q1 near far k h) ∙ e) ∙ rank2_gaps near far p;
}

pub rank2_within : (n a b k : ℕ) → a < b → b < n → k < 2 ^ n → 4 * rank2 a b k < 2 ^ n
rank2_within n a b k l m h =
    let t = power_twice n (omega arith) in
    let i : 2 * rank b k < 2 ^ n = rank_within n b k m h in
    let j : 2 * rank2 a b k < 2 ^ (n - 1) = rank_within (n - 1) a (rank b k) (omega arith) (omega arith) in
    omega arith

-- ---- the indices of a group
set_bit : (q b x : ℕ) → bit_at x q ≡ 0 → with_bit q b x ≡ x + b * 2 ^ q
unfolding with_bit
set_bit q b x e = rw e (omega arith)

-- the index of each setting of the qubits
abbrev pub HasPlacesOf : List ℕ → ℕ → List ℕ → Type 0
HasPlacesOf qs x places = (r : ℕ) → r < 2 ^ length qs → with_bits qs r x ≡ get_or places r 0

pub below_two : (P : ℕ → Type 0) → P 0 → P 1 → (r : ℕ) → r < 2 → P r
below_two P a b zero l = a
below_two P a b (suc zero) l = b
below_two P a b (suc (suc r)) l = absurd (omega arith)

pub below_four : (P : ℕ → Type 0) → P 0 → P 1 → P 2 → P 3 → (r : ℕ) → r < 4 → P r
below_four P a b c d zero l = a
below_four P a b c d (suc zero) l = b
below_four P a b c d (suc (suc zero)) l = c
below_four P a b c d (suc (suc (suc zero))) l = d
below_four P a b c d (suc (suc (suc (suc r)))) l = absurd (omega arith)

pub pair_places : (q x : ℕ) → with_bits (q ∷ []) 0 x ≡ x → HasPlacesOf (q ∷ []) x (x ∷ (x + 2 ^ q) ∷ [])
pair_places q x base = below_two (λ r. with_bits (q ∷ []) r x ≡ get_or (x ∷ (x + 2 ^ q) ∷ []) r 0) base (set_bit q 1 x bit ∙ omega arith)
  where
    bit : bit_at x q ≡ 0
    bit = ap (λ n. bit_at n q) (sym base) ∙ bit_same q 0 x (omega arith)

pub quad_places : (p q x : ℕ) → p ≢ q → with_bits (p ∷ q ∷ []) 0 x ≡ x → HasPlacesOf (p ∷ q ∷ []) x (x ∷ (x + 2 ^ q) ∷ (x + 2 ^ p) ∷ (x + 2 ^ p + 2 ^ q) ∷ [])
quad_places p q x apart base = below_four (λ r. with_bits (p ∷ q ∷ []) r x ≡ get_or (x ∷ (x + 2 ^ q) ∷ (x + 2 ^ p) ∷ (x + 2 ^ p + 2 ^ q) ∷ []) r 0) base
    (set_bit p 0 (with_bit q 1 x) (bit_other q p 1 x (omega arith) apart ∙ bp) ∙ ap (λ k. k + 0 * 2 ^ p) (set_bit q 1 x bq) ∙ omega arith)
    (ap (with_bit p 1) (set_bit q 0 x bq ∙ omega arith) ∙ set_bit p 1 x bp ∙ omega arith)
    (set_bit p 1 (with_bit q 1 x) (bit_other q p 1 x (omega arith) apart ∙ bp) ∙ ap (λ k. k + 1 * 2 ^ p) (set_bit q 1 x bq) ∙ omega arith)
  where
    bp : bit_at x p ≡ 0
    bp = ap (λ n. bit_at n p) (sym base) ∙ bit_same p 0 (with_bit q 0 x) (omega arith)

    bq : bit_at x q ≡ 0
    bq = ap (λ n. bit_at n q) (sym base) ∙ bit_other p q 0 (with_bit q 0 x) (omega arith) (λ e. apart (sym e)) ∙ bit_same q 0 x (omega arith)
