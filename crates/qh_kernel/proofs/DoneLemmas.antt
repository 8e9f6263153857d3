-- How far a matrix has been applied: the groups below p are done.
use Rattle.std.proofs.Common.{◌≡◌, ◌≢◌, ℕ, ◌+◌, ◌^◌, ◌<◌, ◌≤◌, inl, inr, List, length, get_or, arith, refl, sym, ap, subst, ◌∙◌, map}
use Rattle.std.proofs.Math.Path.{ap₂}
use Rattle.std.specs.List.{All, range_with_len}
use Rattle.std.proofs.lemmas.List.FromFn.{fill_by_all, get_or-map-range_with_len, length-map-range_with_len}
use Rattle.std.proofs.lemmas.Bool.{cases_eq}
use Rattle.std.proofs.Math.Nat.{mod-eq_of_lt}
use Rattle.qh_ring.specs.declared.number.Omega.{Omega}
use Rattle.qh_ring.specs.Numbers.{product, nothing, IsWithin}
use Rattle.qh_ring.specs.States.{sum_below, place_on, at_index, with_bits, applied, applied_list}
use Rattle.qh_ring.specs.Laws.{AllLess, AreDistinct}
use Rattle.qh_ring.proofs.SumLemmas.{sum_below_same}
use Rattle.qh_ring.proofs.StateLemmas.{place_below}
use Rattle.qh_ring.proofs.AgreeLemmas.{bits_below, bits_twice, place_bits, back}
use Rattle.qh_kernel.proofs.PlaceLemmas.{IsGroup}

-- what these qubits owe
pub record AreQubits (n : ℕ) (qs : List ℕ) : Type 0 where
  pub distinct : AreDistinct qs
  pub less : AllLess n qs

-- of the vector v0 of n qubits, the groups below p are done in v
pub record IsDone (m : ℕ → ℕ → Omega) (qs : List ℕ) (number : ℕ → ℕ) (v0 v : List Omega) (p : ℕ) : Type 0 where
  pub same_length : length v ≡ length v0
  pub done : (k : ℕ) → k < length v0 → number k < p → at_index v k ≡ applied m qs (at_index v0) k
  pub rest : (k : ℕ) → k < length v0 → p ≤ number k → at_index v k ≡ at_index v0 k
  pub bounded : All (IsWithin 126) v

pub done_none : (m : ℕ → ℕ → Omega) (qs : List ℕ) (number : ℕ → ℕ) (v : List Omega) → All (IsWithin 126) v → IsDone m qs number v v 0
done_none m qs number v h = record { same_length = refl; done = λ k l b. absurd (omega arith); rest = λ k l b. refl; bounded = h }

-- a group's new numbers by the old ones, as long as it is not done
pub group_now : (m : ℕ → ℕ → Omega) (qs : List ℕ) (number : ℕ → ℕ) (n : ℕ) (v0 v : List Omega) (x p : ℕ) → AreQubits n qs → length v0 ≡ 2 ^ n → x < 2 ^ n
    → IsGroup qs number x p → IsDone m qs number v0 v p → (r : ℕ) → r < 2 ^ length qs
    → applied m qs (at_index v0) (with_bits qs r x) ≡ sum_below (2 ^ length qs) (λ c. product (m r c) (at_index v (with_bits qs c x)))
unfolding applied
group_now m qs number n v0 v x p h len lx g d r l =
    sum_below_same (2 ^ length qs) _ _ (λ c b.
    ap₂ (λ i j. product (m i c) (at_index v0 j)) (place_bits qs r x h.distinct ∙ mod-eq_of_lt l) (bits_twice qs c r x)
    ∙ ap (product (m r c)) (sym (d.rest (with_bits qs c x) (subst (λ k. with_bits qs c x < k) (sym len) (bits_below n c qs x h.less lx))
    (at_least p (number (with_bits qs c x)) (g.there (with_bits qs c x) (bits_twice qs 0 c x ∙ g.base))))))
  where
    at_least : (p k : ℕ) → k ≡ p → p ≤ k
    at_least p k e = omega arith

-- a list in which the group's numbers are the new ones, and the others are as before
pub record IsWritten (qs : List ℕ) (x : ℕ) (y : ℕ → Omega) (v new : List Omega) : Type 0 where
  pub same_length : length new ≡ length v
  pub here : (r : ℕ) → r < 2 ^ length qs → at_index new (with_bits qs r x) ≡ y r
  pub other : (k : ℕ) → ((r : ℕ) → r < 2 ^ length qs → k ≢ with_bits qs r x) → at_index new k ≡ at_index v k

-- one more group is done
pub done_more : (m : ℕ → ℕ → Omega) (qs : List ℕ) (number : ℕ → ℕ) (n : ℕ) (v0 v new : List Omega) (x p : ℕ) → AreQubits n qs → length v0 ≡ 2 ^ n → x < 2 ^ n
    → IsGroup qs number x p → IsDone m qs number v0 v p
    → IsWritten qs x (λ r. sum_below (2 ^ length qs) (λ c. product (m r c) (at_index v (with_bits qs c x)))) v new
    → All (IsWithin 126) new → IsDone m qs number v0 new (p + 1)
done_more m qs number n v0 v new x p h len lx g d wr bounded = record {
  same_length = wr.same_length ∙ d.same_length;
  done = λ k l b. elim (cases_eq (number k) p) [
    | inl e ↦
        let f : k ≡ with_bits qs (place_on qs k) x = back m qs (at_index v0) n x h.distinct h.less lx k (g.here k e ∙ sym g.base) in
        ap (at_index new) f ∙ wr.here (place_on qs k) (place_below qs k)
        ∙ sym (group_now m qs number n v0 v x p h len lx g d (place_on qs k) (place_below qs k)) ∙ ap (applied m qs (at_index v0)) (sym f)
    | inr ne ↦ wr.other k (λ r s e. ne (g.there k (ap (with_bits qs 0) e ∙ bits_twice qs 0 r x ∙ g.base))) ∙ d.done k l (below_next (number k) p b ne)
  ];
  rest = λ k l b. wr.other k (λ r s e. above (number k) p b (g.there k (ap (with_bits qs 0) e ∙ bits_twice qs 0 r x ∙ g.base))) ∙ d.rest k l (before (number k) p b);
  bounded = bounded;
}
  where
    below_next : (r p : ℕ) → r < p + 1 → r ≢ p → r < p
    below_next r p l ne = omega arith

    above : (r p : ℕ) → p + 1 ≤ r → r ≡ p → ⊥
    above r p l e = omega arith

    before : (r p : ℕ) → p + 1 ≤ r → p ≤ r
    before r p l = omega arith

pub done_all : (m : ℕ → ℕ → Omega) (qs : List ℕ) (number : ℕ → ℕ) (v0 v : List Omega) (p : ℕ) → ((k : ℕ) → k < length v0 → number k < p) → IsDone m qs number v0 v p → v ≡ applied_list m qs v0
unfolding applied_list
done_all m qs number v0 v p all d = fill_by_all (applied m qs (at_index v0)) v (length v0) nothing d.same_length (λ k l. d.done k l (all k l))

-- where each number of the new vector is within the bound, so is each of a group
pub group_bounded : (m : ℕ → ℕ → Omega) (qs : List ℕ) (number : ℕ → ℕ) (n : ℕ) (v0 v : List Omega) (x p : ℕ) → AreQubits n qs → length v0 ≡ 2 ^ n → x < 2 ^ n
    → IsGroup qs number x p → IsDone m qs number v0 v p → All (IsWithin 126) (applied_list m qs v0)
    → (r : ℕ) → r < 2 ^ length qs → IsWithin 126 (sum_below (2 ^ length qs) (λ c. product (m r c) (at_index v (with_bits qs c x))))
unfolding applied_list
group_bounded m qs number n v0 v x p h len lx g d all r l =
    let f = applied m qs (at_index v0) in
    let k = with_bits qs r x in
    let i : k < length v0 = subst (λ t. k < t) (sym len) (bits_below n r qs x h.less lx) in
    let z : 0 + k ≡ k = omega arith in
    let a : IsWithin 126 (get_or (map f (range_with_len 0 (length v0))) k nothing) = all k nothing (rw length-map-range_with_len i) in
    subst (IsWithin 126) (get_or-map-range_with_len f 0 (length v0) k k nothing i z ∙ group_now m qs number n v0 v x p h len lx g d r l) a
