-- The lines of the probabilities that are asked for.
use Rattle.std.specs.Prelude.{◌≡◌, ℕ, List, [], ◌∷◌, ◌++◌}
use Rattle.qh_gates.specs.Circuits.{Circuit, total_weight}
use Rattle.qh_gates.specs.Evolution.{uncut}
use Rattle.qh_prob.specs.declared.prob.Prob.{Prob}
use Rattle.qh_prob.specs.Probability.{probability}
use Rattle.qh_prob.specs.Forms.{IsLeast, prob_line}

-- the text has a line for each basis index, in their order, with the least form of its probability after all gates
abbrev pub AreProbLines : Circuit → List ℕ → List ℕ → Type 0
AreProbLines c [] text = text ≡ []
AreProbLines c (x ∷ xs) text =
    (y : Prob) × (k : ℕ) × (rest : List ℕ) × IsLeast (probability (uncut c.gates x)) (total_weight c.gates) y k
    × AreProbLines c xs rest × (text ≡ prob_line c.qubits x y k ++ rest)

-- a circuit and basis indices have one such text
abbrev pub HaveOneText : Type 0
HaveOneText = (c : Circuit) (xs s t : List ℕ) → AreProbLines c xs s → AreProbLines c xs t → s ≡ t
