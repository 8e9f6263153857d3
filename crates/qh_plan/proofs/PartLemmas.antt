-- The qubits and the indices of one part.
use Rattle.std.proofs.Common.{◌≡◌, ◌≢◌, ℕ, zero, suc, ◌+◌, ◌*◌, ◌^◌, ◌<◌, ◌≤◌, inl, inr, Bool, true, false, arith, refl, sym, ap, ◌∙◌}
use Rattle.std.specs.Int.{bit_at}
use Rattle.std.proofs.Math.Nat.{pow-succ'}
use Rattle.std.proofs.lemmas.Nat.{mul-le}
use Rattle.std.proofs.lemmas.Nat.Bits.{bit_at-lt}
use Rattle.std.proofs.lemmas.Bool.{cases_eq, cases_Bool, both_ways}
use Rattle.qh_ring.specs.States.{with_bit}
use Rattle.qh_plan.specs.Parts.{count_below, local_index}
use Rattle.qh_ring.proofs.BitLemmas.{bit_same, bit_other, bit_top, bit_low, with_top, with_low}

-- what n adds, where it lies in the part or not
pub count_in : (one : ℕ → Bool) (n : ℕ) → one n ≡ true → count_below one (suc n) ≡ suc (count_below one n)
count_in one n e = rw e refl

pub count_out : (one : ℕ → Bool) (n : ℕ) → one n ≡ false → count_below one (suc n) ≡ count_below one n
count_out one n e = rw e refl

pub index_in : (one : ℕ → Bool) (n x : ℕ) → one n ≡ true → local_index one (suc n) x ≡ local_index one n x + bit_at x n * 2 ^ count_below one n
index_in one n x e = rw e refl

pub index_out : (one : ℕ → Bool) (n x : ℕ) → one n ≡ false → local_index one (suc n) x ≡ local_index one n x
index_out one n x e = rw e refl

pub count_mono : (one : ℕ → Bool) (q n : ℕ) → q ≤ n → count_below one q ≤ count_below one n
count_mono one q zero h = let e : q ≡ zero = omega arith in rw e (omega arith)
count_mono one q (suc n) h = elim (cases_eq q (suc n)) [
  | inl e ↦ rw e (omega arith)
  | inr ne ↦
      let i : count_below one q ≤ count_below one n = count_mono one q n (omega arith) in
      elim (cases_Bool (one n)) [
        | inl e ↦ let s = count_in one n e in omega arith
        | inr e ↦ let s = count_out one n e in omega arith
      ]
]

-- a qubit of the part has a number below the part's size
pub count_lt : (one : ℕ → Bool) (q n : ℕ) → one q ≡ true → q < n → count_below one q < count_below one n
count_lt one q n t h =
    let s = count_in one q t in
    let m : count_below one (suc q) ≤ count_below one n = count_mono one (suc q) n (omega arith) in
    omega arith

pub local_below : (one : ℕ → Bool) (n x : ℕ) → local_index one n x < 2 ^ count_below one n
local_below one zero x = omega arith
local_below one (suc n) x =
    let i : local_index one n x < 2 ^ count_below one n = local_below one n x in
    elim (cases_Bool (one n)) [
      | inl e ↦
          let w : 2 ^ suc (count_below one n) ≡ 2 * 2 ^ count_below one n = pow-succ' 2 (count_below one n) in
          let b : bit_at x n < 2 = bit_at-lt x n in
          let m : bit_at x n * 2 ^ count_below one n ≤ 1 * 2 ^ count_below one n = mul-le (bit_at x n) (2 ^ count_below one n) 1 (2 ^ count_below one n) (omega arith) (omega arith) in
          rw (index_in one n x e, count_in one n e) (omega arith)
      | inr e ↦ rw (index_out one n x e, count_out one n e) i
    ]

-- bits that do not differ below n give one local index
pub local_same : (one : ℕ → Bool) (n x y : ℕ) → ((q : ℕ) → q < n → one q ≡ true → bit_at x q ≡ bit_at y q) → local_index one n x ≡ local_index one n y
local_same one zero x y h = refl
local_same one (suc n) x y h =
    let i : local_index one n x ≡ local_index one n y = local_same one n x y (λ q l. h q (omega arith)) in
    elim (cases_Bool (one n)) [
      | inl e ↦
          let b : bit_at x n ≡ bit_at y n = h n (omega arith) e in
          index_in one n x e ∙ ap (λ k. k + bit_at x n * 2 ^ count_below one n) i ∙ ap (λ k. local_index one n y + k * 2 ^ count_below one n) b ∙ sym (index_in one n y e)
      | inr e ↦ index_out one n x e ∙ i ∙ sym (index_out one n y e)
    ]

-- a qubit of another part changes nothing
pub local_keeps : (one : ℕ → Bool) (n q b x : ℕ) → b < 2 → one q ≡ false → local_index one n (with_bit q b x) ≡ local_index one n x
local_keeps one n q b x l f = local_same one n (with_bit q b x) x (λ p h t. bit_other q p b x l (apart p t))
  where
    apart : (p : ℕ) → one p ≡ true → p ≢ q
    apart p t e = both_ways (one q) f (sym (ap one e) ∙ t)

-- a qubit at or past n changes nothing
local_past : (one : ℕ → Bool) (n q b x : ℕ) → b < 2 → n ≤ q → local_index one n (with_bit q b x) ≡ local_index one n x
local_past one n q b x l h = local_same one n (with_bit q b x) x (λ p i t. bit_other q p b x l (omega arith))

-- a qubit of the part changes the bit of its number
pub local_moves : (one : ℕ → Bool) (n q b x : ℕ) → b < 2 → one q ≡ true → q < n → local_index one n (with_bit q b x) ≡ with_bit (count_below one q) b (local_index one n x)
local_moves one zero q b x l t h = absurd (omega arith)
local_moves one (suc n) q b x l t h = elim (cases_Bool (one n)) [
  | inl e ↦ elim (cases_eq q n) [
    | inl same ↦
        rw same (
        index_in one n (with_bit n b x) e
        ∙ ap (λ k. k + bit_at (with_bit n b x) n * 2 ^ count_below one n) (local_past one n n b x l (omega arith))
        ∙ ap (λ k. local_index one n x + k * 2 ^ count_below one n) (bit_same n b x l)
        ∙ sym (with_top (count_below one n) (bit_at x n) b (local_index one n x) (bit_at-lt x n) (local_below one n x))
        ∙ ap (with_bit (count_below one n) b) (sym (index_in one n x e)))
    | inr ne ↦
        index_in one n (with_bit q b x) e
        ∙ ap (λ k. k + bit_at (with_bit q b x) n * 2 ^ count_below one n) (local_moves one n q b x l t (omega arith))
        ∙ ap (λ k. with_bit (count_below one q) b (local_index one n x) + k * 2 ^ count_below one n) (bit_other q n b x l (λ f. ne (sym f)))
        ∙ sym (with_low (count_below one q) (count_below one n) (bit_at x n) b (local_index one n x) (count_lt one q n t (omega arith)))
        ∙ ap (with_bit (count_below one q) b) (sym (index_in one n x e))
  ]
  | inr e ↦
      index_out one n (with_bit q b x) e
      ∙ local_moves one n q b x l t (in_rest q n h (apart e))
      ∙ ap (with_bit (count_below one q) b) (sym (index_out one n x e))
]
  where
    apart : one n ≡ false → q ≢ n
    apart f e = both_ways (one n) f (sym (ap one e) ∙ t)

    in_rest : (q n : ℕ) → q < suc n → q ≢ n → q < n
    in_rest q n h ne = omega arith

pub local_bit : (one : ℕ → Bool) (n q x : ℕ) → one q ≡ true → q < n → bit_at (local_index one n x) (count_below one q) ≡ bit_at x q
local_bit one zero q x t h = absurd (omega arith)
local_bit one (suc n) q x t h = elim (cases_Bool (one n)) [
  | inl e ↦ elim (cases_eq q n) [
    | inl same ↦
        rw same (
        ap (λ k. bit_at k (count_below one n)) (index_in one n x e)
        ∙ bit_top (count_below one n) (bit_at x n) (local_index one n x) (bit_at-lt x n) (local_below one n x))
    | inr ne ↦
        ap (λ k. bit_at k (count_below one q)) (index_in one n x e)
        ∙ bit_low (count_below one q) (count_below one n) (bit_at x n) (local_index one n x) (count_lt one q n t (omega arith))
        ∙ local_bit one n q x t (omega arith)
  ]
  | inr e ↦ ap (λ k. bit_at k (count_below one q)) (index_out one n x e) ∙ local_bit one n q x t (in_rest q n h (apart e))
]
  where
    apart : one n ≡ false → q ≢ n
    apart f e = both_ways (one n) f (sym (ap one e) ∙ t)

    in_rest : (q n : ℕ) → q < suc n → q ≢ n → q < n
    in_rest q n h ne = omega arith
