-- The probability of a basis index, exactly.
use Rattle.std.specs.Prelude.{ℕ, ◌^◌, ℤ, pos, ◌+ℤ◌, ◌-ℤ◌, ◌*ℤ◌, ◌≤ℤ◌, List, [], ◌∷◌, map, unsigned_abs}
use Rattle.qh_limits.specs.Limits.{max_weight}
use Rattle.qh_ring.specs.declared.number.Omega.{Omega}
use Rattle.qh_ring.specs.States.{listed}
use Rattle.qh_gates.specs.Circuits.{Circuit}
use Rattle.qh_gates.specs.Evolution.{uncut}
use Rattle.qh_prob.specs.declared.prob.Prob.{Prob}

-- the squared magnitude P + Q sqrt 2 of a + b w + c w^2 + d w^3; the probability of this number over sqrt 2 ^ k is
-- (P + Q sqrt 2) / 2 ^ k
abbrev pub probability : Omega → Prob
probability z = record {
  p = z.a *ℤ z.a +ℤ z.b *ℤ z.b +ℤ z.c *ℤ z.c +ℤ z.d *ℤ z.d;
  q = z.a *ℤ z.b +ℤ z.b *ℤ z.c +ℤ z.c *ℤ z.d -ℤ z.d *ℤ z.a;
}

-- the probabilities of all basis indices of a circuit, in order, each over 2 ^ k where k gates are scaled
abbrev pub probabilities : Circuit → List Prob
probabilities c = map probability (listed c.qubits (uncut c.gates))

-- sums go by coefficient
abbrev pub plus : Prob → Prob → Prob
plus x y = record { p = x.p +ℤ y.p; q = x.q +ℤ y.q }

-- 0
abbrev pub never : Prob
never = record { p = pos 0; q = pos 0 }

-- the sum of them all
abbrev pub total : List Prob → Prob
total [] = never
total (x ∷ xs) = plus x (total xs)

-- 1, over 2 ^ k
abbrev pub certain : ℕ → Prob
certain k = record { p = pos (2 ^ k); q = pos 0 }

-- P is at most 2 ^ 120, and Q's magnitude at most P
pub record IsBounded (x : Prob) : Type 0 where
  pub p : x.p ≤ℤ pos (2 ^ max_weight)
  pub q : pos (unsigned_abs x.q) ≤ℤ x.p
