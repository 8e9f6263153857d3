-- One more group by the writes that the code makes.
use Rattle.std.proofs.Common.{◌≡◌, ℕ, ◌+◌, ◌^◌, ◌<◌, List, [], ◌∷◌, length, set, get_or, arith, sym, ap, subst, ◌∙◌, Option, Some}
use Rattle.std.specs.List.{All}
use Rattle.std.proofs.Math.Nat.{mod-eq_of_lt}
use Rattle.qh_ring.specs.declared.number.Omega.{Omega}
use Rattle.qh_ring.specs.declared.matrix.Entry.{Entry}
use Rattle.qh_ring.specs.Numbers.{sum, product, nothing, IsWithin}
use Rattle.qh_ring.specs.Matrices.{number_in}
use Rattle.qh_ring.specs.States.{sum_below, place_on, at_index, with_bits, applied_list}
use Rattle.qh_ring.proofs.SumLemmas.{sum_below_same, nothing_sum}
use Rattle.qh_ring.proofs.AgreeLemmas.{bits_below, place_bits}
use Rattle.qh_kernel.specs.declared.sources.Source.{Source}
use Rattle.qh_kernel.specs.Rows.{row_sum2}
use Rattle.qh_kernel.specs.Sources.{or_old, value_of, source_at, AreSources, put_all, moved}
use Rattle.qh_kernel.proofs.PlaceLemmas.{HasPlacesOf, IsGroup, below_two}
use Rattle.qh_kernel.proofs.WriteLemmas.{length_put_all, put_all_here, put_all_other}
use Rattle.qh_kernel.proofs.DoneLemmas.{AreQubits, IsDone, IsWritten, done_more, group_bounded}

-- each place is within the vector
pub place_within : (qs : List ℕ) (n x r : ℕ) (places : List ℕ) (v : List Omega) → AreQubits n qs → length v ≡ 2 ^ n → x < 2 ^ n → HasPlacesOf qs x places
    → r < 2 ^ length qs → get_or places r 0 < length v
place_within qs n x r places v h len lx at l = subst (λ k. k < length v) (at r l) (subst (λ t. with_bits qs r x < t) (sym len) (bits_below n r qs x h.less lx))

-- numbers at the places of a group
pub put_written : (qs : List ℕ) (n x : ℕ) (places : List ℕ) (z : ℕ → Option Omega) (y : ℕ → Omega) (v : List Omega) → AreQubits n qs → length v ≡ 2 ^ n → x < 2 ^ n → HasPlacesOf qs x places
    → ((r : ℕ) → r < 2 ^ length qs → or_old (z r) (at_index v (get_or places r 0)) ≡ y r)
    → IsWritten qs x y v (put_all (2 ^ length qs) (λ r. get_or places r 0) z v)
put_written qs n x places z y v h len lx at e =
    let w = λ (r : ℕ). get_or places r 0 in record {
      same_length = length_put_all (2 ^ length qs) w z v;
      here = λ r l. ap (at_index (put_all (2 ^ length qs) w z v)) (at r l)
          ∙ put_all_here (2 ^ length qs) w z v apart (λ s b. place_within qs n x s places v h len lx at b) r l ∙ e r l;
      other = λ k no. put_all_other (2 ^ length qs) w z v k (λ r l f. no r l (f ∙ sym (at r l)));
    }
  where
    apart : (a b : ℕ) → a < 2 ^ length qs → b < 2 ^ length qs → get_or places a 0 ≡ get_or places b 0 → a ≡ b
    apart a b la lb f =
        sym (mod-eq_of_lt la) ∙ sym (place_bits qs a x h.distinct) ∙ ap (place_on qs) (at a la ∙ f ∙ sym (at b lb)) ∙ place_bits qs b x h.distinct ∙ mod-eq_of_lt lb

-- one more group, where each row has a source
pub moved_more : (rows : List (List Entry)) (qs : List ℕ) (number : ℕ → ℕ) (n : ℕ) (v0 v new : List Omega) (x p : ℕ) (sources : List Source) (places : List ℕ)
    → AreQubits n qs → length v0 ≡ 2 ^ n → x < 2 ^ n → IsGroup qs number x p → HasPlacesOf qs x places → AreSources (2 ^ length qs) rows sources
    → IsDone (number_in rows) qs number v0 v p → new ≡ moved (2 ^ length qs) sources places v → All (IsWithin 126) new
    → IsDone (number_in rows) qs number v0 new (p + 1)
moved_more rows qs number n v0 v new x p sources places h len lx g at from d e bounded =
    let y = λ (r : ℕ). sum_below (2 ^ length qs) (λ c. product (number_in rows r c) (at_index v (with_bits qs c x))) in
    done_more (number_in rows) qs number n v0 v new x p h len lx g d
    (subst (IsWritten qs x y v) (sym e) (put_written qs n x places
    (λ r. value_of (source_at sources r) (λ c. at_index v (get_or places c 0))) y v h (d.same_length ∙ len) lx at
    (λ r l. sym ((from r l).value (λ c. at_index v (get_or places c 0)))
    ∙ sum_below_same (2 ^ length qs) _ _ (λ c b. ap (λ k. product (number_in rows r c) (at_index v k)) (sym (at c b))))))
    bounded

-- the sum over a pair
pub pair_sum : (rows : List (List Entry)) (q x : ℕ) (v : List Omega) (low high : ℕ) → HasPlacesOf (q ∷ []) x (low ∷ high ∷ []) → (r : ℕ)
    → sum_below 2 (λ c. product (number_in rows r c) (at_index v (with_bits (q ∷ []) c x))) ≡ row_sum2 (number_in rows r 0) (number_in rows r 1) (at_index v low) (at_index v high)
pair_sum rows q x v low high at r =
    sum_below_same 2 _ _ (λ c b. ap (λ k. product (number_in rows r c) (at_index v k)) (at c b))
    ∙ ap (λ t. sum t (product (number_in rows r 1) (at_index v high))) (nothing_sum (product (number_in rows r 0) (at_index v low)))

-- one more pair
pub added_more : (rows : List (List Entry)) (q : ℕ) (number : ℕ → ℕ) (n : ℕ) (v0 v : List Omega) (x p low high : ℕ) (a b : Omega)
    → AreQubits n (q ∷ []) → length v0 ≡ 2 ^ n → x < 2 ^ n → IsGroup (q ∷ []) number x p → HasPlacesOf (q ∷ []) x (low ∷ high ∷ [])
    → IsDone (number_in rows) (q ∷ []) number v0 v p
    → a ≡ row_sum2 (number_in rows 0 0) (number_in rows 0 1) (at_index v low) (at_index v high)
    → b ≡ row_sum2 (number_in rows 1 0) (number_in rows 1 1) (at_index v low) (at_index v high)
    → All (IsWithin 126) (set (set v low a) high b)
    → IsDone (number_in rows) (q ∷ []) number v0 (set (set v low a) high b) (p + 1)
added_more rows q number n v0 v x p low high a b h len lx g at d ea eb bounded =
    let y = λ (r : ℕ). sum_below 2 (λ c. product (number_in rows r c) (at_index v (with_bits (q ∷ []) c x))) in
    done_more (number_in rows) (q ∷ []) number n v0 v (set (set v low a) high b) x p h len lx g d
    (put_written (q ∷ []) n x (low ∷ high ∷ []) (λ r. Some (get_or (a ∷ b ∷ []) r nothing)) y v h (d.same_length ∙ len) lx at
    (below_two (λ r. get_or (a ∷ b ∷ []) r nothing ≡ y r) (ea ∙ sym (pair_sum rows q x v low high at 0)) (eb ∙ sym (pair_sum rows q x v low high at 1))))
    bounded

-- a pair of which one new number is not within the bound
pub pair_over : (rows : List (List Entry)) (q : ℕ) (number : ℕ → ℕ) (n : ℕ) (v0 v : List Omega) (x p low high : ℕ)
    → AreQubits n (q ∷ []) → length v0 ≡ 2 ^ n → x < 2 ^ n → IsGroup (q ∷ []) number x p → HasPlacesOf (q ∷ []) x (low ∷ high ∷ [])
    → IsDone (number_in rows) (q ∷ []) number v0 v p → All (IsWithin 126) (applied_list (number_in rows) (q ∷ []) v0)
    → IsWithin 126 (row_sum2 (number_in rows 0 0) (number_in rows 0 1) (at_index v low) (at_index v high))
    × IsWithin 126 (row_sum2 (number_in rows 1 0) (number_in rows 1 1) (at_index v low) (at_index v high))
pair_over rows q number n v0 v x p low high h len lx g at d all =
    let each = group_bounded (number_in rows) (q ∷ []) number n v0 v x p h len lx g d all in (
      subst (IsWithin 126) (pair_sum rows q x v low high at 0) (each 0 (omega arith)),
      subst (IsWithin 126) (pair_sum rows q x v low high at 1) (each 1 (omega arith)),
    )
