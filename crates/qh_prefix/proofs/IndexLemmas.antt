-- Indices within a part, by the list of the part's qubits.
use Rattle.std.proofs.Common.{◌≡◌, ℕ, zero, suc, ◌+◌, ◌*◌, ◌/◌, ◌%◌, ◌^◌, ◌<◌, ◌≤◌, inl, inr, Bool, List, [], ◌∷◌, ◌++◌, length, get_or, take, arith, refl, sym, ap, subst, ◌∙◌, bit_and}
use Rattle.std.specs.Int.{bit_at}
use Rattle.std.specs.List.{All}
use Rattle.std.proofs.Math.Path.{ap₂}
use Rattle.std.proofs.Math.Pow.{pow_mono}
use Rattle.std.proofs.Math.Nat.{mod-eq_of_lt}
use Rattle.std.proofs.lemmas.Nat.{mul-le, pow_below}
use Rattle.std.proofs.lemmas.Nat.Bits.{bit_at-lt, shr_and_one}
use Rattle.std.proofs.lemmas.List.{take_more, length-append, length-take-le}
use Rattle.std.proofs.lemmas.List.Elements.{All-push}
use Rattle.std.proofs.lemmas.Bool.{cases_Bool}
use Rattle.qh_plan.specs.Parts.{count_below, local_index}
use Rattle.qh_prefix.specs.Parts.{qubits_below, index_on}

twice : (b p : ℕ) → b < 2 → 2 * (b * p) ≡ b * (p * 2)
twice zero p l = omega arith
twice (suc zero) p l = omega arith
twice (suc (suc b)) p l = absurd (omega arith)

index_push : (qs : List ℕ) (q x : ℕ) → index_on (qs ++ q ∷ []) x ≡ index_on qs x + bit_at x q * 2 ^ length qs
index_push [] q x = omega arith
index_push (a ∷ qs) q x =
    let h = index_push qs q x in
    let t = twice (bit_at x q) (2 ^ length qs) (bit_at-lt x q) in
    let e : 2 ^ suc (length qs) ≡ 2 ^ length qs * 2 = omega arith in
    ap (λ k. bit_at x a + 2 * k) h
    ∙ (omega arith)
    ∙ ap (λ k. bit_at x a + 2 * index_on qs x + k) (t ∙ ap (λ p. bit_at x q * p) (sym e))

pub length_below : (one : ℕ → Bool) (n : ℕ) → length (qubits_below one n) ≡ count_below one n
length_below one zero = refl
length_below one (suc n) = elim (cases_Bool (one n)) [
  | inl e ↦ rw e (length-append (qubits_below one n) (n ∷ []) ∙ (let h = length_below one n in omega arith))
  | inr e ↦ rw e (length_below one n)
]

pub index_below : (one : ℕ → Bool) (n x : ℕ) → index_on (qubits_below one n) x ≡ local_index one n x
index_below one zero x = refl
index_below one (suc n) x = elim (cases_Bool (one n)) [
  | inl e ↦ rw e (index_push (qubits_below one n) n x ∙ ap₂ (λ i k. i + bit_at x n * 2 ^ k) (index_below one n x) (length_below one n))
  | inr e ↦ rw e (index_below one n x)
]

pub qubits_under : (one : ℕ → Bool) (n m : ℕ) → n ≤ m → All (λ q. q < m) (qubits_below one n)
qubits_under one zero m l = λ i d h. absurd (omega arith)
qubits_under one (suc n) m l = elim (cases_Bool (one n)) [
  | inl e ↦ rw e (All-push (λ q. q < m) (qubits_below one n) n (qubits_under one n m (omega arith)) (omega arith))
  | inr e ↦ rw e (qubits_under one n m (omega arith))
]

pub index_lt : (qs : List ℕ) (x : ℕ) → index_on qs x < 2 ^ length qs
index_lt [] x = omega arith
index_lt (q ∷ qs) x =
    let h = index_lt qs x in
    let b = bit_at-lt x q in
    let e : 2 ^ suc (length qs) ≡ 2 ^ length qs * 2 = omega arith in
    omega (arith, e)

pub record IsNext (qs : List ℕ) (k x j q : ℕ) : Type 0 where
  pub small : k < 20
  pub fits : j + bit_and (x / 2 ^ q) 1 * 2 ^ k % 4294967296 < 2 ^ 20
  pub value : j + bit_and (x / 2 ^ q) 1 * 2 ^ k % 4294967296 ≡ index_on (take (k + 1) qs) x

pow-le : (e : ℕ) → e ≤ 20 → 2 ^ e ≤ 2 ^ 20
pow-le e l = pow_mono l

-- the bit of the next qubit
pub next : (qs : List ℕ) (k x j q : ℕ) → k < length qs → length qs ≤ 20 → q ≡ get_or qs k 0 → j ≡ index_on (take k qs) x → IsNext qs k x j q
next qs k x j q l few is_at here =
    let c : bit_and (x / 2 ^ q) 1 ≡ bit_at x q = shr_and_one x q in
    let s : 2 ^ k < 2 ^ 20 = pow_below k 20 (omega arith) in
    let w : bit_at x q * 2 ^ k ≤ 1 * 2 ^ k = mul-le (bit_at x q) (2 ^ k) 1 (2 ^ k) (let h = bit_at-lt x q in omega arith) (omega arith) in
    let f : bit_at x q * 2 ^ k % 4294967296 ≡ bit_at x q * 2 ^ k = mod-eq_of_lt (omega arith) in
    let len : length (take k qs) ≡ k = length-take-le k qs (omega arith) in
    let more : take (k + 1) qs ≡ take k qs ++ q ∷ [] = take_more qs k 0 l ∙ ap (λ p. take k qs ++ p ∷ []) (sym is_at) in
    let e : j + bit_and (x / 2 ^ q) 1 * 2 ^ k % 4294967296 ≡ index_on (take (k + 1) qs) x =
    ap (λ t. j + t * 2 ^ k % 4294967296) c ∙ ap (λ t. j + t) f ∙ ap₂ (λ j e. j + bit_at x q * 2 ^ e) here (sym len)
    ∙ sym (ap (λ t. index_on t x) more ∙ index_push (take k qs) q x) in
    let full : length (take (k + 1) qs) ≡ k + 1 = length-take-le (k + 1) qs (omega arith) in
    let below : index_on (take (k + 1) qs) x < 2 ^ (k + 1) = subst (λ e. index_on (take (k + 1) qs) x < 2 ^ e) full (index_lt (take (k + 1) qs) x) in
    let top : 2 ^ (k + 1) ≤ 2 ^ 20 = pow-le (k + 1) (omega arith) in
    record { small = omega arith; fits = omega (arith, e); value = e }
