-- A gate written piece by piece.
use Rattle.std.proofs.Common.{◌≡◌, ℕ, List, [], ◌∷◌, ◌++◌, decimal, ap, ◌∙◌, append_assoc}
use Rattle.qh_gates.specs.declared.gate.Gate.{Gate}
use Rattle.qh_gates.specs.Tables.{name_text}
use Rattle.qh_circuit.specs.Spelling.{spaced_number, second_text, gate_text, gate_line}

regrouped : (old a n q s : List ℕ) → (((((old ++ a) ++ 32 ∷ []) ++ n) ++ q) ++ s) ++ 10 ∷ [] ≡ old ++ ((((a ++ (32 ∷ n)) ++ q) ++ s) ++ 10 ∷ [])
regrouped old a n q s = simp append_assoc

pub gate_written : (old t1 t2 t3 t4 t5 t6 : List ℕ) (gate : Gate) → t1 ≡ old ++ decimal gate.time → t2 ≡ t1 ++ 32 ∷ [] → t3 ≡ t2 ++ name_text gate.kind
    → t4 ≡ t3 ++ spaced_number gate.q0 → t5 ≡ t4 ++ second_text gate → t6 ≡ t5 ++ 10 ∷ [] → t6 ≡ old ++ gate_line gate
unfolding gate_text
gate_written old t1 t2 t3 t4 t5 t6 gate e1 e2 e3 e4 e5 e6 =
    e6 ∙ ap (λ t. t ++ 10 ∷ []) (e5 ∙ ap (λ t. t ++ second_text gate) (e4 ∙ ap (λ t. t ++ spaced_number gate.q0) (e3
    ∙ ap (λ t. t ++ name_text gate.kind) (e2 ∙ ap (λ t. t ++ 32 ∷ []) e1))))
    ∙ regrouped old (decimal gate.time) (name_text gate.kind) (spaced_number gate.q0) (second_text gate)
