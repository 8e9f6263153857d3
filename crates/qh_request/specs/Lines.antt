-- The lines of amplitudes and of probabilities: each begins with the string that was asked.
use Rattle.std.specs.Prelude.{◌≡◌, ℕ, List, [], ◌∷◌, ◌++◌, decimal}
use Rattle.std.specs.Fmt.{signed_decimal}
use Rattle.qh_ring.specs.declared.number.Omega.{Omega}
use Rattle.qh_ring.specs.declared.canon.Canon.{Canon}
use Rattle.qh_ring.specs.Numbers.{IsCanon}
use Rattle.qh_gates.specs.Circuits.{Circuit, total_weight}
use Rattle.qh_gates.specs.Evolution.{uncut}
use Rattle.qh_prob.specs.declared.prob.Prob.{Prob}
use Rattle.qh_prob.specs.Probability.{probability}
use Rattle.qh_prob.specs.Forms.{IsLeast}
use Rattle.qh_text.specs.Bitstrings.{index_of}
use Rattle.qh_text.specs.Words.{word_of}

-- a b c d k, a space before each: the number (a + b w + c w^2 + d w^3) / sqrt 2 ^ k, and the end of the line
unfoldable pub value_words : Canon → List ℕ
value_words v =
    word_of (signed_decimal v.z.a) ++ word_of (signed_decimal v.z.b) ++ word_of (signed_decimal v.z.c)
    ++ word_of (signed_decimal v.z.d) ++ word_of (decimal v.k) ++ 10 ∷ []

-- a line for each string and its value over sqrt 2 ^ k, in their order: the string, and the canonical form of the value
abbrev pub AreLines : ℕ → List (List ℕ) → List Omega → List ℕ → Type 0
AreLines k [] values text = text ≡ []
AreLines k (s ∷ ss) [] text = ⊥
AreLines k (s ∷ ss) (z ∷ zs) text =
    (v : Canon) × (rest : List ℕ) × IsCanon z k v × AreLines k ss zs rest × (text ≡ s ++ value_words v ++ rest)

-- P Q k, a space before each: the probability (P + Q sqrt 2) / 2 ^ k, and the end of the line
unfoldable pub prob_words : Prob → ℕ → List ℕ
prob_words x k = word_of (signed_decimal x.p) ++ word_of (signed_decimal x.q) ++ word_of (decimal k) ++ 10 ∷ []

-- a line for each string, in their order: the string, and the least form of the probability of its basis index
abbrev pub AreProbabilities : Circuit → List (List ℕ) → List ℕ → Type 0
AreProbabilities c [] text = text ≡ []
AreProbabilities c (s ∷ ss) text =
    (x : Prob) × (k : ℕ) × (rest : List ℕ) × IsLeast (probability (uncut c.gates (index_of s))) (total_weight c.gates) x k
    × AreProbabilities c ss rest × (text ≡ s ++ prob_words x k ++ rest)
