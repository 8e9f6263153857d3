-- The conjugate, and the squared magnitude.
use Rattle.std.proofs.Common.{◌≡◌, ℕ, zero, suc, ◌<◌, ℤ, pos, ◌+ℤ◌, ◌-ℤ◌, ◌*ℤ◌, neg_ℤ, arith, refl, sym, ap, ◌∙◌}
use Rattle.std.proofs.Math.Path.{ap₂}
use Rattle.std.proofs.lemmas.Int.{ints}
use Rattle.qh_ring.specs.declared.number.Omega.{Omega}
use Rattle.qh_ring.specs.Numbers.{sum, product, nothing}
use Rattle.qh_ring.specs.States.{sum_below}
use Rattle.qh_ring.proofs.NumberLemmas.{same_number, expand, linear, product_comm, product_assoc}
use Rattle.qh_prob.specs.Probability.{probability}
use Rattle.qh_prob.specs.Laws.{conjugate, in_ring}

pub conjugate_sum : (x y : Omega) → conjugate (sum x y) ≡ sum (conjugate x) (conjugate y)
conjugate_sum x y = same_number _ _ (omega (arith, ints)) (omega (arith, ints)) (omega (arith, ints)) (omega (arith, ints))

pub conjugate_product : (x y : Omega) → conjugate (product x y) ≡ product (conjugate x) (conjugate y)
unfolding product
conjugate_product x y = same_number _ _ (simp expand (omega (arith, linear))) (simp expand (omega (arith, linear))) (simp expand (omega (arith, linear))) (simp expand (omega (arith, linear)))

pub conjugate_sum_below : (n : ℕ) (f : ℕ → Omega) → conjugate (sum_below n f) ≡ sum_below n (λ k. conjugate (f k))
conjugate_sum_below zero f = refl
conjugate_sum_below (suc n) f = conjugate_sum (sum_below n f) (f n) ∙ ap (λ t. sum t (conjugate (f n))) (conjugate_sum_below n f)

-- a number times its conjugate
abbrev pub norm : Omega → Omega
norm z = product z (conjugate z)

squared : (a b c d : ℤ) → product (record { a = a; b = b; c = c; d = d }) (record { a = a; b = neg_ℤ d; c = neg_ℤ c; d = neg_ℤ b })
    ≡ record { a = a *ℤ a +ℤ b *ℤ b +ℤ c *ℤ c +ℤ d *ℤ d; b = a *ℤ b +ℤ b *ℤ c +ℤ c *ℤ d -ℤ d *ℤ a; c = pos 0; d = neg_ℤ (a *ℤ b +ℤ b *ℤ c +ℤ c *ℤ d -ℤ d *ℤ a) }
unfolding product
squared a b c d = same_number _ _ (simp expand (omega (arith, linear))) (simp expand (omega (arith, ints))) (simp expand (omega (arith, ints))) (simp expand (omega (arith, linear)))

pub squared_magnitude : (z : Omega) → norm z ≡ in_ring (probability z)
squared_magnitude z = squared z.a z.b z.c z.d

-- the second and the third of four factors change places
pub inner_change : (x y z w : Omega) → product (product x y) (product z w) ≡ product (product x z) (product y w)
inner_change x y z w =
    product_assoc x y (product z w)
    ∙ ap (product x) (sym (product_assoc y z w) ∙ ap (λ t. product t w) (product_comm y z) ∙ product_assoc z y w)
    ∙ sym (product_assoc x z (product y w))
