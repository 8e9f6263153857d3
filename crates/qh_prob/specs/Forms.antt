-- The form of a probability that is shown, and its line.
use Rattle.std.specs.Prelude.{◌≡◌, ℕ, zero, suc, ◌-◌, ◌≤◌, List, [], ◌∷◌, ◌++◌, decimal}
use Rattle.std.specs.Fmt.{signed_decimal}
use Rattle.qh_text.specs.Bitstrings.{bits_text}
use Rattle.qh_text.specs.Words.{word_of}
use Rattle.qh_prob.specs.declared.prob.Prob.{Prob}
use Rattle.qh_prob.specs.Probability.{plus}

-- x times 2, n times over
abbrev pub doubled : ℕ → Prob → Prob
doubled zero x = x
doubled (suc n) x = plus (doubled n x) (doubled n x)

-- of the pairs (y, j) with j from 0 to k and y / 2^j = x / 2^k, the one of least j
pub record IsLeast (x : Prob) (k : ℕ) (y : Prob) (j : ℕ) : Type 0 where
  pub bounded : j ≤ k
  pub same : doubled (k - j) y ≡ x
  pub least : (z : Prob) (i : ℕ) → i ≤ k → doubled (k - i) z ≡ x → j ≤ i

-- bits P Q k: the probability (P + Q sqrt 2) / 2 ^ k
unfoldable pub prob_line : ℕ → ℕ → Prob → ℕ → List ℕ
prob_line qubits index x k =
    bits_text qubits index ++ word_of (signed_decimal x.p) ++ word_of (signed_decimal x.q) ++ word_of (decimal k) ++ 10 ∷ []
