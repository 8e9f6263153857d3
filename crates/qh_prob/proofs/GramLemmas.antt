-- What keeps the sum of the squared magnitudes: a matrix whose columns are orthogonal and have one length.
use Rattle.std.proofs.Common.{◌≡◌, ◌≢◌, ℕ, zero, suc, ◌%◌, ◌^◌, ◌<◌, cond, eqb, List, [], ◌∷◌, length, arith, refl, sym, ap, ◌∙◌}
use Rattle.std.proofs.Math.Path.{ap₂}
use Rattle.std.proofs.Math.Nat.{mod-eq_of_lt}
use Rattle.std.proofs.lemmas.Bool.{eq-eqb, ne_eqb}
use Rattle.qh_ring.specs.declared.number.Omega.{Omega}
use Rattle.qh_ring.specs.Numbers.{sum, product, nothing}
use Rattle.qh_ring.specs.States.{sum_below, place_on, with_bits, applied}
use Rattle.qh_ring.specs.Laws.{AreDistinct, AllLess}
use Rattle.qh_ring.proofs.NumberLemmas.{nothing_times}
use Rattle.qh_ring.proofs.SumLemmas.{sum_below_one, sum_below_same, sum_below_swap, product_sum_below, sum_below_product, product_of_sums, picked, left_out}
use Rattle.qh_ring.proofs.AgreeLemmas.{bits_twice, place_bits}
use Rattle.qh_prob.specs.Laws.{conjugate}
use Rattle.qh_prob.proofs.RingLemmas.{norm, conjugate_product, conjugate_sum_below, inner_change}
use Rattle.qh_prob.proofs.SpreadLemmas.{many, many_injective, product_many, spread}

-- the inner product of two columns
abbrev pub gram : (ℕ → ℕ → Omega) → ℕ → ℕ → ℕ → Omega
gram m n i j = sum_below n (λ c. product (m c i) (conjugate (m c j)))

-- columns are orthogonal, and the square of their length is s
pub record IsScaledUnitary (m : ℕ → ℕ → Omega) (n : ℕ) (s : Omega) : Type 0 where
  pub columns : (i j : ℕ) → i < n → j < n → gram m n i j ≡ cond (eqb i j) s nothing

module _ (m : ℕ → ℕ → Omega) (n : ℕ) (s : Omega) (unitary : IsScaledUnitary m n s) (u : ℕ → Omega) where
  -- a product of two of a row's terms
  abbrev crossed : ℕ → ℕ → ℕ → Omega
  crossed c i j = product (product (m c i) (u i)) (conjugate (product (m c j) (u j)))

  parted : (c i j : ℕ) → crossed c i j ≡ product (product (m c i) (conjugate (m c j))) (product (u i) (conjugate (u j)))
  parted c i j =
      ap (product (product (m c i) (u i))) (conjugate_product (m c j) (u j))
      ∙ inner_change (m c i) (u i) (conjugate (m c j)) (conjugate (u j))

  row : (c : ℕ) → norm (sum_below n (λ i. product (m c i) (u i))) ≡ sum_below n (λ i. sum_below n (λ j. crossed c i j))
  row c =
      ap (product (sum_below n (λ i. product (m c i) (u i)))) (conjugate_sum_below n (λ i. product (m c i) (u i)))
      ∙ product_of_sums n n (λ i. product (m c i) (u i)) (λ i. conjugate (product (m c i) (u i)))

  -- over all rows
  columns_of : (i j : ℕ) → sum_below n (λ c. crossed c i j) ≡ product (gram m n i j) (product (u i) (conjugate (u j)))
  columns_of i j =
      sum_below_same n _ _ (λ c l. parted c i j)
      ∙ sym (sum_below_product n (λ c. product (m c i) (conjugate (m c j))) (product (u i) (conjugate (u j))))

  at_column : (i : ℕ) → i < n → sum_below n (λ j. sum_below n (λ c. crossed c i j)) ≡ product s (norm (u i))
  at_column i l =
      sum_below_one n i (λ j. sum_below n (λ c. crossed c i j)) l (λ j b ne.
      columns_of i j ∙ ap (λ t. product t (product (u i) (conjugate (u j)))) (unitary.columns i j l b ∙ left_out _ s (ne_eqb i j (λ e. ne (sym e))))
      ∙ nothing_times _)
      ∙ columns_of i i ∙ ap (λ t. product t (norm (u i))) (unitary.columns i i l l ∙ picked _ s (eq-eqb i i refl))

  -- the new numbers' squared magnitudes add up to s times the old ones'
  pub rows : sum_below n (λ c. norm (sum_below n (λ i. product (m c i) (u i)))) ≡ product s (sum_below n (λ i. norm (u i)))
  rows =
      sum_below_same n _ _ (λ c l. row c)
      ∙ sum_below_swap n n (λ c i. sum_below n (λ j. crossed c i j))
      ∙ sum_below_same n _ _ (λ i l. sum_below_swap n n (λ c j. crossed c i j) ∙ at_column i l)
      ∙ sym (product_sum_below n s (λ i. norm (u i)))

-- the sum of the squared magnitudes of a state
abbrev pub norms : ℕ → (ℕ → Omega) → Omega
norms n v = sum_below (2 ^ n) (λ x. norm (v x))

module _ (m : ℕ → ℕ → Omega) (qs : List ℕ) (s : Omega) (unitary : IsScaledUnitary m (2 ^ length qs) s) (v : ℕ → Omega) (distinct : AreDistinct qs) where
  -- the new number where the qubits are set to c
  at_setting : (x c : ℕ) → c < 2 ^ length qs
      → applied m qs v (with_bits qs c x) ≡ sum_below (2 ^ length qs) (λ i. product (m c i) (v (with_bits qs i x)))
  unfolding applied
  at_setting x c l =
      sum_below_same (2 ^ length qs) _ _ (λ i b. ap₂ product
      (ap (λ t. m t i) (place_bits qs c x distinct ∙ mod-eq_of_lt l))
      (ap v (bits_twice qs i c x)))

  in_group : (x : ℕ) → sum_below (2 ^ length qs) (λ c. norm (applied m qs v (with_bits qs c x)))
      ≡ product s (sum_below (2 ^ length qs) (λ c. norm (v (with_bits qs c x))))
  in_group x =
      sum_below_same (2 ^ length qs) _ _ (λ c l. ap norm (at_setting x c l))
      ∙ rows m (2 ^ length qs) s unitary (λ i. v (with_bits qs i x))

  -- a matrix on some qubits multiplies the sum of the squared magnitudes by the square of its columns' length
  pub norms_applied : (n : ℕ) → AllLess n qs → norms n (applied m qs v) ≡ product s (norms n v)
  norms_applied n less = many_injective (length qs) _ _
      (sym (spread n qs (λ x. norm (applied m qs v x)) less)
      ∙ sum_below_same (2 ^ n) _ _ (λ x l. in_group x)
      ∙ sym (product_sum_below (2 ^ n) s (λ x. sum_below (2 ^ length qs) (λ c. norm (v (with_bits qs c x)))))
      ∙ ap (product s) (spread n qs (λ x. norm (v x)) less)
      ∙ product_many (length qs) s (norms n v))
