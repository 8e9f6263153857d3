-- Texts of probabilities, one line more at a time, and that there is one.
use Rattle.std.proofs.Common.{◌≡◌, ℕ, ◌-◌, ◌^◌, ◌<◌, List, [], ◌∷◌, ◌++◌, length, map, get_or, refl, sym, ap, subst, ◌∙◌, arith, append_assoc, append-nil}
use Rattle.std.proofs.Math.Path.{ap₂}
use Rattle.std.proofs.lemmas.List.{get_or-map, length-map}
use Rattle.qh_ring.specs.Numbers.{nothing}
use Rattle.qh_ring.specs.States.{listed}
use Rattle.qh_ring.proofs.ListedLemmas.{length-listed, at_listed}
use Rattle.qh_gates.specs.Circuits.{Circuit, total_weight}
use Rattle.qh_gates.specs.Evolution.{uncut}
use Rattle.qh_prob.specs.declared.prob.Prob.{Prob}
use Rattle.qh_prob.specs.Probability.{probability, probabilities}
use Rattle.qh_prob.specs.Forms.{IsLeast, doubled, prob_line}
use Rattle.qh_prob.specs.Texts.{AreProbLines}
use Rattle.qh_prob.proofs.FormLemmas.{doubled_injective}

-- the list has the probability of each index
pub there_are : (c : Circuit) → length (probabilities c) ≡ 2 ^ c.qubits
there_are c = length-map (listed c.qubits (uncut c.gates)) probability ∙ length-listed c.qubits (uncut c.gates)

pub at_index_is : (c : Circuit) (x : ℕ) (d : Prob) → x < 2 ^ c.qubits → get_or (probabilities c) x d ≡ probability (uncut c.gates x)
at_index_is c x d below =
    let within : x < length (listed c.qubits (uncut c.gates)) = rw (length-listed c.qubits (uncut c.gates)) below in
    get_or-map probability (listed c.qubits (uncut c.gates)) x nothing d within ∙ ap probability (at_listed c.qubits (uncut c.gates) x below)

-- one line more
pub AreProbLines-push : (c : Circuit) (xs text : List ℕ) (x : ℕ) (y : Prob) (k : ℕ) → AreProbLines c xs text
    → IsLeast (probability (uncut c.gates x)) (total_weight c.gates) y k → AreProbLines c (xs ++ x ∷ []) (text ++ prob_line c.qubits x y k)
AreProbLines-push c [] text x y k e h =
    (y, k, [], h, refl, ap (λ t. t ++ prob_line c.qubits x y k) e ∙ sym (append-nil (prob_line c.qubits x y k)))
AreProbLines-push c (w ∷ ws) text x y k d h = (
  d.0,
  d.1,
  d.2 ++ prob_line c.qubits x y k,
  d.3,
  AreProbLines-push c ws d.2 x y k d.4 h,
  ap (λ t. t ++ prob_line c.qubits x y k) d.5 ∙ append_assoc (prob_line c.qubits w d.0 d.1) d.2 (prob_line c.qubits x y k),
)

-- a probability has one least form
pub one_least : (x y z : Prob) (k i j : ℕ) → IsLeast x k y i → IsLeast x k z j → (y ≡ z) × (i ≡ j)
one_least x y z k i j d e =
    let below = d.least z j e.bounded e.same in
    let above = e.least y i d.bounded d.same in
    let same : i ≡ j = omega arith in
    (doubled_injective (k - i) y z (d.same ∙ sym e.same ∙ ap (λ n. doubled (k - n) z) (sym same)), same)

-- and so indices have one text
pub one_text : (c : Circuit) (xs s t : List ℕ) → AreProbLines c xs s → AreProbLines c xs t → s ≡ t
one_text c [] s t d e = d ∙ sym e
one_text c (x ∷ xs) s t d e =
    let least = one_least _ d.0 e.0 _ d.1 e.1 d.3 e.3 in
    let rest = one_text c xs d.2 e.2 d.4 e.4 in
    d.5 ∙ ap₂ (λ y k. prob_line c.qubits x y k ++ d.2) least.0 least.1 ∙ ap (λ r. prob_line c.qubits x e.0 e.1 ++ r) rest ∙ sym e.5

-- the form that the code makes of a number of the list
pub form_is : (c : Circuit) (probs : List Prob) (x w k : ℕ) (d y : Prob) → probs ≡ probabilities c → w ≡ total_weight c.gates → x < 2 ^ c.qubits
    → IsLeast (get_or probs x d) w y k → IsLeast (probability (uncut c.gates x)) (total_weight c.gates) y k
form_is c probs x w k d y exact weight below h =
    subst (λ n. IsLeast (probability (uncut c.gates x)) n y k) weight
    (subst (λ z. IsLeast z w y k) (ap (λ ps. get_or ps x d) exact ∙ at_index_is c x d below) h)
