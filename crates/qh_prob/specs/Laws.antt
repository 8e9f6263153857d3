-- What the definition of a probability means in the ring, and what all of them add up to.
use Rattle.std.specs.Prelude.{◌≡◌, ℕ, ◌^◌, ◌<◌, ◌≤◌, ℤ, pos, neg_ℤ}
use Rattle.qh_ring.specs.declared.number.Omega.{Omega}
use Rattle.qh_ring.specs.Numbers.{product}
use Rattle.qh_gates.specs.Circuits.{Circuit, IsCircuit, total_weight}
use Rattle.qh_prob.specs.declared.prob.Prob.{Prob}
use Rattle.qh_prob.specs.Probability.{probability, probabilities, total, certain, IsBounded}
use Rattle.qh_prob.specs.Forms.{prob_line}

-- the complex conjugate: w becomes w^7, which is - w^3
abbrev pub conjugate : Omega → Omega
conjugate z = record { a = z.a; b = neg_ℤ z.d; c = neg_ℤ z.c; d = neg_ℤ z.b }

-- P + Q sqrt 2 as a number of the ring, in which sqrt 2 = w - w^3
abbrev pub in_ring : Prob → Omega
in_ring x = record { a = x.p; b = x.q; c = pos 0; d = neg_ℤ x.q }

-- a number times its conjugate
abbrev pub IsSquaredMagnitude : Type 0
IsSquaredMagnitude = (z : Omega) → product z (conjugate z) ≡ in_ring (probability z)

-- the probabilities of every circuit add up to 1
abbrev pub AddUpToOne : Type 0
AddUpToOne = (c : Circuit) → IsCircuit c → total (probabilities c) ≡ certain (total_weight c.gates)

-- equal lines have equal bitstrings and probabilities
pub record AreSame (i j : ℕ) (x y : Prob) (k m : ℕ) : Type 0 where
  pub index : i ≡ j
  pub prob : x ≡ y
  pub power : k ≡ m

abbrev pub HasOneReading : Type 0
HasOneReading = (qubits i j : ℕ) (x y : Prob) (k m : ℕ) → i < 2 ^ qubits → j < 2 ^ qubits → IsBounded x → IsBounded y → k ≤ 120 → m ≤ 120
    → prob_line qubits i x k ≡ prob_line qubits j y m → AreSame i j x y k m
