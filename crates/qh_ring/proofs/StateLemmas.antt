-- What a matrix makes of a state, and of sums of states and matrices.
use Rattle.std.proofs.Common.{◌≡◌, ℕ, suc, ◌*◌, ◌^◌, ◌<◌, ◌≤◌, List, [], ◌∷◌, length, arith, ap, ◌∙◌}
use Rattle.std.specs.Int.{bit_at}
use Rattle.std.proofs.Math.Nat.{pow-succ'}
use Rattle.std.proofs.lemmas.Nat.{mul-le}
use Rattle.std.proofs.lemmas.Nat.Bits.{bit_at-lt}
use Rattle.qh_ring.specs.declared.number.Omega.{Omega}
use Rattle.qh_ring.specs.Numbers.{product}
use Rattle.qh_ring.specs.States.{sum_below, place_on}
use Rattle.qh_ring.specs.States.{with_bits, applied}
use Rattle.qh_ring.proofs.SumLemmas.{sum_below_same, sum_below_swap, product_sum_below, sum_below_product}

pub place_below : (qs : List ℕ) (x : ℕ) → place_on qs x < 2 ^ length qs
place_below [] x = omega arith
place_below (q ∷ qs) x =
    let i : place_on qs x < 2 ^ length qs = place_below qs x in
    let w : 2 ^ suc (length qs) ≡ 2 * 2 ^ length qs = pow-succ' 2 (length qs) in
    let b : bit_at x q < 2 = bit_at-lt x q in
    let m : bit_at x q * 2 ^ length qs ≤ 1 * 2 ^ length qs = mul-le (bit_at x q) (2 ^ length qs) 1 (2 ^ length qs) (omega arith) (omega arith) in
    rw w (omega arith)

-- a matrix matters only where its rows and columns are
pub applied_matrix : (m p : ℕ → ℕ → Omega) (qs : List ℕ) (v : ℕ → Omega) (x : ℕ)
    → ((i j : ℕ) → i < 2 ^ length qs → j < 2 ^ length qs → m i j ≡ p i j) → applied m qs v x ≡ applied p qs v x
unfolding applied
applied_matrix m p qs v x h =
    sum_below_same (2 ^ length qs) _ _ (λ c l. ap (λ t. product t (v (with_bits qs c x))) (h (place_on qs x) c (place_below qs x) l))

-- the matrix of a sum
pub applied_sum_matrix : (n : ℕ) (m : ℕ → ℕ → ℕ → Omega) (qs : List ℕ) (v : ℕ → Omega) (x : ℕ)
    → applied (λ i j. sum_below n (λ t. m t i j)) qs v x ≡ sum_below n (λ t. applied (m t) qs v x)
unfolding applied
applied_sum_matrix n m qs v x =
    sum_below_same (2 ^ length qs) _ _ (λ c l. sum_below_product n (λ t. m t (place_on qs x) c) (v (with_bits qs c x)))
    ∙ sum_below_swap (2 ^ length qs) n (λ c t. product (m t (place_on qs x) c) (v (with_bits qs c x)))

-- the state of a sum
pub applied_sum_state : (n : ℕ) (m : ℕ → ℕ → Omega) (qs : List ℕ) (v : ℕ → ℕ → Omega) (x : ℕ)
    → applied m qs (λ y. sum_below n (λ t. v t y)) x ≡ sum_below n (λ t. applied m qs (v t) x)
unfolding applied
applied_sum_state n m qs v x =
    sum_below_same (2 ^ length qs) _ _ (λ c l. product_sum_below n (m (place_on qs x) c) (λ t. v t (with_bits qs c x)))
    ∙ sum_below_swap (2 ^ length qs) n (λ c t. product (m (place_on qs x) c) (v t (with_bits qs c x)))
