-- The least form of a probability.
use Rattle.std.proofs.Common.{◌≡◌, ◌≢◌, ℕ, zero, suc, ◌+◌, ◌-◌, ◌<◌, ◌≤◌, inl, inr, ℤ, ◌+ℤ◌, arith, refl, sym, ap, ◌∙◌}
use Rattle.std.proofs.Math.Path.{ap₂}
use Rattle.std.proofs.lemmas.Int.{ints}
use Rattle.std.proofs.lemmas.Bool.{cases_lt}
use Rattle.qh_prob.specs.declared.prob.Prob.{Prob}
use Rattle.qh_prob.specs.Probability.{plus}
use Rattle.qh_prob.specs.Forms.{doubled, IsLeast}
use Rattle.qh_prob.proofs.TotalLemmas.{same_prob}

doubled_add : (m n : ℕ) (x : Prob) → doubled (m + n) x ≡ doubled m (doubled n x)
doubled_add zero n x = let e : zero + n ≡ n = omega arith in ap (λ k. doubled k x) e
doubled_add (suc m) n x =
    let e : suc m + n ≡ suc (m + n) = omega arith in
    ap (λ k. doubled k x) e ∙ ap₂ plus (doubled_add m n x) (doubled_add m n x)

plus_injective : (x y : Prob) → plus x x ≡ plus y y → x ≡ y
plus_injective x y e =
    let ep : x.p +ℤ x.p ≡ y.p +ℤ y.p = ap (λ (z : Prob). z.p) e in
    let eq : x.q +ℤ x.q ≡ y.q +ℤ y.q = ap (λ (z : Prob). z.q) e in
    same_prob x y (omega (arith, ints)) (omega (arith, ints))

pub doubled_injective : (n : ℕ) (x y : Prob) → doubled n x ≡ doubled n y → x ≡ y
doubled_injective zero x y e = e
doubled_injective (suc n) x y e = doubled_injective n x y (plus_injective _ _ e)

-- what is no double is in least form
pub least_of_odd : (x rest : Prob) (k power : ℕ) → power ≤ k → doubled (k - power) rest ≡ x → ((h : Prob) → plus h h ≢ rest)
    → (y : Prob) (j : ℕ) → j ≤ k → doubled (k - j) y ≡ x → power ≤ j
least_of_odd x rest k power within same odd y j below e = elim (cases_lt j power) [
  | inl h ↦
      let apart : (k - power) + suc (power - suc j) ≡ k - j = omega arith in
      absurd (odd (doubled (power - suc j) y) (doubled_injective (k - power) _ _
      (sym (doubled_add (k - power) (suc (power - suc j)) y) ∙ ap (λ n. doubled n y) apart ∙ e ∙ sym same)))
  | inr h ↦ h
]

-- one more halving
pub halved_step : (k power : ℕ) (x rest h : Prob) → 0 < power → power ≤ k → doubled (k - power) rest ≡ x → plus h h ≡ rest → doubled (k - (power - 1)) h ≡ x
halved_step k power x rest h some below same e =
    let n : k - (power - 1) ≡ (k - power) + 1 = omega arith in
    ap (λ m. doubled m h) n ∙ doubled_add (k - power) 1 h ∙ ap (doubled (k - power)) e ∙ same

-- a least form is its own
pub least_own : (x y : Prob) (k j : ℕ) → IsLeast x k y j → IsLeast y j y j
least_own x y k j h =
    let zero_left : j - j ≡ 0 = omega arith in
    let within = h.bounded in
    record {
      bounded = omega arith;
      same = ap (λ n. doubled n y) zero_left;
      least = λ z i l e.
          let apart : (k - j) + (j - i) ≡ k - i = omega arith in
          h.least z i (omega arith) (sym (ap (λ n. doubled n z) apart) ∙ doubled_add (k - j) (j - i) z ∙ ap (doubled (k - j)) e ∙ h.same);
    }

-- the form that is left once no half is found, or the power is 0
pub least_left : (x rest : Prob) (k power : ℕ) → power ≤ k → doubled (k - power) rest ≡ x → ((h : Prob) → plus h h ≢ rest) → IsLeast x k rest power
least_left x rest k power within same odd = record { bounded = within; same = same; least = least_of_odd x rest k power within same odd }

pub least_at_zero : (x rest : Prob) (k power : ℕ) → power ≤ k → power ≤ 0 → doubled (k - power) rest ≡ x → IsLeast x k rest power
least_at_zero x rest k power within none same = record { bounded = within; same = same; least = λ z i l e. omega arith }
