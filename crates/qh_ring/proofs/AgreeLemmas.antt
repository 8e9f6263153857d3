-- The sum over the settings of the qubits is the sum over all indices that agree outside these qubits.
use Rattle.std.proofs.Common.{◌≡◌, ℕ, ◌+◌, ◌*◌, ◌/◌, ◌%◌, ◌^◌, ◌<◌, ◌≤◌, inl, inr, cond, eqb, List, [], ◌∷◌, length, arith, refl, sym, ap, ◌∙◌}
use Rattle.std.proofs.Math.Path.{ap₂}
use Rattle.std.specs.Int.{bit_at}
use Rattle.std.proofs.Math.Arith.{mod-mul}
use Rattle.std.proofs.Math.Nat.{pow-succ', mod-eq_of_lt}
use Rattle.std.proofs.lemmas.Nat.{pow_pos}
use Rattle.std.proofs.lemmas.Nat.Bits.{bit_at-lt, same_from_bits}
use Rattle.std.proofs.lemmas.Bool.{cases_eq, eq-eqb, ne_eqb}
use Rattle.qh_ring.specs.declared.number.Omega.{Omega}
use Rattle.qh_ring.specs.Numbers.{product}
use Rattle.qh_ring.specs.Numbers.{nothing}
use Rattle.qh_ring.specs.States.{sum_below, place_on}
use Rattle.qh_ring.specs.States.{with_bit, with_bits, applied}
use Rattle.qh_ring.specs.Laws.{NoneIs, AreDistinct, AllLess}
use Rattle.qh_ring.proofs.SumLemmas.{sum_below_one, sum_below_none, picked, left_out, sum_below_same, sum_below_swap}
use Rattle.qh_ring.proofs.BitLemmas.{bit_same, bit_other, bit_top, bit_low, with_bit_below}
use Rattle.qh_ring.proofs.StateLemmas.{place_below}

pub bits_below : (n c : ℕ) (qs : List ℕ) (x : ℕ) → AllLess n qs → x < 2 ^ n → with_bits qs c x < 2 ^ n
bits_below n c [] x h l = l
bits_below n c (q ∷ qs) x h l = with_bit_below q n (bit_at c (length qs)) (with_bits qs c x) (bit_at-lt c (length qs)) h.0 (bits_below n c qs x h.1 l)

bits_other : (qs : List ℕ) (c x p : ℕ) → NoneIs p qs → bit_at (with_bits qs c x) p ≡ bit_at x p
bits_other [] c x p h = refl
bits_other (q ∷ qs) c x p h = bit_other q p (bit_at c (length qs)) (with_bits qs c x) (bit_at-lt c (length qs)) h.0 ∙ bits_other qs c x p h.1

-- what the bits were at these qubits is lost
bits_set : (qs : List ℕ) (c x y p : ℕ) → (NoneIs p qs → bit_at x p ≡ bit_at y p) → bit_at (with_bits qs c x) p ≡ bit_at (with_bits qs c y) p
bits_set [] c x y p h = h tt
bits_set (q ∷ qs) c x y p h =
    let b = bit_at c (length qs) in
    let l : b < 2 = bit_at-lt c (length qs) in
    elim (cases_eq p q) [
      | inl e ↦ rw e (bit_same q b (with_bits qs c x) l ∙ sym (bit_same q b (with_bits qs c y) l))
      | inr ne ↦ bit_other q p b (with_bits qs c x) l ne ∙ bits_set qs c x y p (λ n. h (ne, n)) ∙ sym (bit_other q p b (with_bits qs c y) l ne)
    ]

pub bits_twice : (qs : List ℕ) (c d x : ℕ) → with_bits qs c (with_bits qs d x) ≡ with_bits qs c x
bits_twice qs c d x = same_from_bits _ _ (λ p. bits_set qs c (with_bits qs d x) x p (λ n. bits_other qs d x p n))

place_other : (qs : List ℕ) (q b x : ℕ) → b < 2 → NoneIs q qs → place_on qs (with_bit q b x) ≡ place_on qs x
place_other [] q b x l h = refl
place_other (p ∷ qs) q b x l h =
    ap₂ (λ i j. i * 2 ^ length qs + j) (bit_other q p b x l (λ e. h.0 (sym e))) (place_other qs q b x l h.1)

pub place_bits : (qs : List ℕ) (c x : ℕ) → AreDistinct qs → place_on qs (with_bits qs c x) ≡ c % 2 ^ length qs
place_bits [] c x h = omega arith
place_bits (q ∷ qs) c x h =
    let b = bit_at c (length qs) in
    let l : b < 2 = bit_at-lt c (length qs) in
    let two : 0 < 2 = omega arith in
    let e : c % (2 * 2 ^ length qs) ≡ (c / 2 ^ length qs % 2) * 2 ^ length qs + c % 2 ^ length qs = mod-mul c two (pow_pos (length qs)) in
    ap₂ (λ i j. i * 2 ^ length qs + j) (bit_same q b (with_bits qs c x) l) (place_other qs q b (with_bits qs c x) l h.0 ∙ place_bits qs c x h.1)
    ∙ sym e ∙ ap (λ t. c % t) (sym (pow-succ' 2 (length qs)))

-- only the low bits of the setting matter
bits_low : (qs : List ℕ) (k a c x : ℕ) → length qs ≤ k → with_bits qs (c + a * 2 ^ k) x ≡ with_bits qs c x
bits_low [] k a c x h = refl
bits_low (q ∷ qs) k a c x h = ap₂ (with_bit q) (bit_low (length qs) k a c (omega arith)) (bits_low qs k a c x (omega arith))

same_bit : (q x y : ℕ) → x ≡ y → with_bit q (bit_at y q) x ≡ y
same_bit q x y e = same_from_bits _ _ (λ p. elim (cases_eq p q) [
  | inl f ↦ rw f (bit_same q (bit_at y q) x (bit_at-lt y q))
  | inr ne ↦ bit_other q p (bit_at y q) x (bit_at-lt y q) ne ∙ ap (λ n. bit_at n p) e
])

bits_place : (qs : List ℕ) (y : ℕ) → with_bits qs (place_on qs y) y ≡ y
bits_place [] y = refl
bits_place (q ∷ qs) y =
    let k = length qs in
    let c = place_on qs y in
    let e : bit_at y q * 2 ^ k + c ≡ c + bit_at y q * 2 ^ k = omega arith in
    ap (λ t. with_bits (q ∷ qs) t y) e
    ∙ ap₂ (with_bit q) (bit_top k (bit_at y q) c (bit_at-lt y q) (place_below qs y)) (bits_low qs k (bit_at y q) c y (omega arith) ∙ bits_place qs y)
    ∙ same_bit q y y refl

module _ (m : ℕ → ℕ → Omega) (qs : List ℕ) (v : ℕ → Omega) (n x : ℕ) (distinct : AreDistinct qs) (less : AllLess n qs) (lx : x < 2 ^ n) where
  -- the term of the index y where the setting is c
  chosen : ℕ → ℕ → Omega
  chosen c y = cond (eqb y (with_bits qs c x)) (product (m (place_on qs x) c) (v y)) nothing

  agree_term : ℕ → Omega
  agree_term y = cond (eqb (with_bits qs 0 y) (with_bits qs 0 x)) (product (m (place_on qs x) (place_on qs y)) (v y)) nothing

  outside_same : (c y : ℕ) → y ≡ with_bits qs c x → with_bits qs 0 y ≡ with_bits qs 0 x
  outside_same c y e = ap (with_bits qs 0) e ∙ bits_twice qs 0 c x

  pub back : (y : ℕ) → with_bits qs 0 y ≡ with_bits qs 0 x → y ≡ with_bits qs (place_on qs y) x
  back y e =
      sym (bits_place qs y) ∙ sym (bits_twice qs (place_on qs y) 0 y) ∙ ap (with_bits qs (place_on qs y)) e ∙ bits_twice qs (place_on qs y) 0 x

  by_setting : (y : ℕ) → agree_term y ≡ sum_below (2 ^ length qs) (λ c. chosen c y)
  unfolding agree_term chosen
  by_setting y = elim (cases_eq (with_bits qs 0 y) (with_bits qs 0 x)) [
    | inl e ↦
        picked _ _ (eq-eqb _ _ e)
        ∙ sym (picked _ (product (m (place_on qs x) (place_on qs y)) (v y)) (eq-eqb _ _ (back y e)))
        ∙ sym (sum_below_one (2 ^ length qs) (place_on qs y) (λ c. chosen c y) (place_below qs y) (λ c l ne.
        left_out _ _ (ne_eqb _ _ (λ f. ne (sym (ap (place_on qs) f ∙ place_bits qs c x distinct ∙ mod-eq_of_lt l))))))
    | inr ne ↦
        left_out _ _ (ne_eqb _ _ ne)
        ∙ sym (sum_below_none (2 ^ length qs) (λ c. chosen c y) (λ c l. left_out _ _ (ne_eqb _ _ (λ f. ne (outside_same c y f)))))
  ]

  by_index : (c : ℕ) → sum_below (2 ^ n) (chosen c) ≡ product (m (place_on qs x) c) (v (with_bits qs c x))
  unfolding chosen
  by_index c =
      sum_below_one (2 ^ n) (with_bits qs c x) (chosen c) (bits_below n c qs x less lx) (λ y l ne. left_out _ _ (ne_eqb _ _ ne))
      ∙ picked _ _ (eq-eqb _ _ refl)

  pub applied_agrees : applied m qs v x
      ≡ sum_below (2 ^ n) (λ y. cond (eqb (with_bits qs 0 y) (with_bits qs 0 x)) (product (m (place_on qs x) (place_on qs y)) (v y)) nothing)
  unfolding applied agree_term
  applied_agrees =
      sum_below_same (2 ^ length qs) _ _ (λ c l. sym (by_index c))
      ∙ sum_below_swap (2 ^ length qs) (2 ^ n) chosen
      ∙ sum_below_same (2 ^ n) _ _ (λ y l. sym (by_setting y))
