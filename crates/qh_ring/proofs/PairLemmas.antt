-- An index by one qubit, and what a matrix on that qubit makes of a pair of numbers.
use Rattle.std.proofs.Common.{◌≡◌, ℕ, ◌+◌, ◌*◌, ◌/◌, ◌%◌, ◌^◌, ◌<◌, [], ◌∷◌, arith, sym, ap, ◌∙◌}
use Rattle.std.proofs.Math.Path.{ap₂}
use Rattle.std.specs.Int.{bit_at}
use Rattle.std.proofs.lemmas.Nat.{div-mul-add, div-add-mod'}
use Rattle.qh_ring.specs.declared.number.Omega.{Omega}
use Rattle.qh_ring.specs.Numbers.{sum, product}
use Rattle.qh_ring.specs.States.{with_bit, applied}
use Rattle.qh_ring.proofs.SumLemmas.{nothing_sum}

-- ---- an index by the qubit q: 2a + b above the qubit's place, r below it
pub bit_of_pair : (a b r q : ℕ) → b < 2 → r < 2 ^ q → bit_at ((2 * a + b) * 2 ^ q + r) q ≡ b
bit_of_pair a b r q l m =
    let e : ((2 * a + b) * 2 ^ q + r) / 2 ^ q ≡ 2 * a + b = div-mul-add (2 * a + b) (2 ^ q) r m in
    rw e (omega arith)

-- each index is of that form
pub pair_of : (x q : ℕ) → x ≡ (2 * (x / 2 ^ q / 2) + bit_at x q) * 2 ^ q + x % 2 ^ q
pair_of x q =
    let e : x / 2 ^ q ≡ 2 * (x / 2 ^ q / 2) + bit_at x q = omega arith in
    sym (div-add-mod' x (2 ^ q)) ∙ ap (λ n. n * 2 ^ q + x % 2 ^ q) e

-- a state index by the qubit q: 2a + b above the qubit's place, r below it
pub with_bit_of_pair : (a b d r q : ℕ) → b < 2 → r < 2 ^ q → with_bit q d ((2 * a + b) * 2 ^ q + r) ≡ 2 * a * 2 ^ q + r + d * 2 ^ q
unfolding with_bit
with_bit_of_pair a b d r q l m = let e = bit_of_pair a b r q l m in rw e (omega arith)

-- the new number at an index is made of the two numbers of its pair
pub applied_pair : (m : ℕ → ℕ → Omega) (q : ℕ) (v : ℕ → Omega) (a b r low : ℕ) → b < 2 → r < 2 ^ q → low ≡ 2 * a * 2 ^ q + r
    → applied m (q ∷ []) v (low + b * 2 ^ q) ≡ sum (product (m b 0) (v low)) (product (m b 1) (v (low + 2 ^ q)))
unfolding applied
applied_pair m q v a b r low small below e =
    let x : low + b * 2 ^ q ≡ (2 * a + b) * 2 ^ q + r = omega arith in
    let bx : bit_at (low + b * 2 ^ q) q * 2 ^ 0 + 0 ≡ b = let t : bit_at (low + b * 2 ^ q) q ≡ b = ap (λ n. bit_at n q) x ∙ bit_of_pair a b r q small below in omega arith in
    let w0 : with_bit q 0 (low + b * 2 ^ q) ≡ low = ap (with_bit q 0) x ∙ with_bit_of_pair a b 0 r q small below ∙ omega arith in
    let w1 : with_bit q 1 (low + b * 2 ^ q) ≡ low + 2 ^ q = ap (with_bit q 1) x ∙ with_bit_of_pair a b 1 r q small below ∙ omega arith in
    ap (λ t. sum t (product (m (bit_at (low + b * 2 ^ q) q * 2 ^ 0 + 0) 1) (v (with_bit q 1 (low + b * 2 ^ q))))) (nothing_sum _)
    ∙ ap₂ sum (ap₂ product (ap (λ k. m k 0) bx) (ap v w0)) (ap₂ product (ap (λ k. m k 1) bx) (ap v w1))
