-- States and the lists that code keeps of them.
use Rattle.std.proofs.Common.{◌≡◌, ℕ, zero, suc, ◌^◌, ◌<◌, List, length, get_or, map, set, replicate, length-set, arith, ap, ◌∙◌}
use Rattle.std.specs.List.{range_with_len}
use Rattle.std.proofs.lemmas.List.FromFn.{fill_by_all, get_or-map-range_with_len, length-map-range_with_len}
use Rattle.std.proofs.lemmas.List.{length-replicate, get_or-set_same, get_or-set_other, get_or-replicate}
use Rattle.qh_ring.specs.declared.number.Omega.{Omega}
use Rattle.qh_ring.specs.Numbers.{product, nothing, one as unity}
use Rattle.qh_ring.specs.States.{place_on, at_index, with_bits, applied, applied_list, ground, listed}
use Rattle.qh_ring.specs.Laws.{AllLess}
use Rattle.qh_ring.proofs.SumLemmas.{sum_below_same}
use Rattle.qh_ring.proofs.AgreeLemmas.{bits_below}

pub length-listed : (n : ℕ) (v : ℕ → Omega) → length (listed n v) ≡ 2 ^ n
unfolding listed
length-listed n v = length-map-range_with_len v 0 (2 ^ n)

pub at_listed : (n : ℕ) (v : ℕ → Omega) (x : ℕ) → x < 2 ^ n → at_index (listed n v) x ≡ v x
unfolding listed
at_listed n v x l = get_or-map-range_with_len v 0 (2 ^ n) x x nothing l (omega arith)

pub listed_same : (n : ℕ) (v w : ℕ → Omega) → ((x : ℕ) → x < 2 ^ n → v x ≡ w x) → listed n v ≡ listed n w
unfolding listed
listed_same n v w h = fill_by_all w (map v (range_with_len 0 (2 ^ n))) (2 ^ n) nothing (length-map-range_with_len v 0 (2 ^ n))
    (λ x l. get_or-map-range_with_len v 0 (2 ^ n) x x nothing l (omega arith) ∙ h x l)

-- a matrix on a listed state
pub applied_listed : (n : ℕ) (m : ℕ → ℕ → Omega) (qs : List ℕ) (v : ℕ → Omega) → AllLess n qs → applied_list m qs (listed n v) ≡ listed n (applied m qs v)
unfolding applied_list applied listed
applied_listed n m qs v h =
    ap (λ k. map (applied m qs (at_index (listed n v))) (range_with_len 0 k)) (length-listed n v)
    ∙ listed_same n (applied m qs (at_index (listed n v))) (applied m qs v) (λ x l.
    sum_below_same (2 ^ length qs) _ _ (λ c b. ap (product (m (place_on qs x) c)) (at_listed n v (with_bits qs c x) (bits_below n c qs x h l))))

pub ground_listed : (n : ℕ) → set (replicate (2 ^ n) nothing) 0 unity ≡ listed n ground
unfolding listed
ground_listed n = fill_by_all ground (set (replicate (2 ^ n) nothing) 0 unity) (2 ^ n) nothing
    (length-set (replicate (2 ^ n) nothing) 0 unity ∙ length-replicate (2 ^ n) nothing) (at_each n)
  where
    at_each : (n k : ℕ) → k < 2 ^ n → get_or (set (replicate (2 ^ n) nothing) 0 unity) k nothing ≡ ground k
    at_each n zero l = get_or-set_same (replicate (2 ^ n) nothing) 0 unity nothing (rw (length-replicate (2 ^ n) nothing) l)
    at_each n (suc k) l = get_or-set_other (replicate (2 ^ n) nothing) 0 (suc k) unity nothing (omega arith) ∙ get_or-replicate (2 ^ n) (suc k) nothing nothing l
