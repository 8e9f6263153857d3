use Rattle.std.proofs.Common.{◌≡◌, ◌+◌, ◌^◌, ◌<◌, ◌++◌, ◌∷◌, [], ℕ, List, All, length, take, get_or, sym, ap, subst, ◌∙◌}
use Rattle.std.proofs.lemmas.List.{take_more}
use Rattle.qh_prob.specs.declared.prob.Prob.{Prob}
use Rattle.qh_prob.specs.Probability.{IsBounded}
use Rattle.qh_prob.specs.Forms.{prob_line}
use Rattle.qh_prob.specs.Texts.{AreProbLines}
use Rattle.qh_prob.proofs.TotalLemmas.{all_bounded}
use Rattle.qh_prob.proofs.TextLemmas.{there_are, form_is, AreProbLines-push}
use Rattle.qh_prob.proofs.lines.prob_lines.Goals as goal

pub bounds-probs-index : goal.bounds-probs-index
bounds-probs-index c =
    let v = c.args.circuit.now in
    let i = c.loop-index.index-index in
    let x = get_or c.args.indices.now i 0 in
    let below : x < 2 ^ v.qubits = c.requires.below i 0 c.loop-index-test.true in
    let same : length c.args.probs.now ≡ 2 ^ v.qubits = ap (length {A = Prob}) c.requires.exact ∙ there_are v in
    subst (λ (n : ℕ). x < n) (sym same) below

pub least-k-requires-clause-bounded : goal.least-k-requires-clause-bounded
least-k-requires-clause-bounded c =
    let v = c.args.circuit.now in
    let i = c.loop-index.index-index in
    let x = get_or c.args.indices.now i 0 in
    let below : x < 2 ^ v.qubits = c.requires.below i 0 c.loop-index-test.true in
    let same : length c.args.probs.now ≡ 2 ^ v.qubits = ap (length {A = Prob}) c.requires.exact ∙ there_are v in
    let all : All IsBounded c.args.probs.now = subst (All IsBounded) (sym c.requires.exact) (all_bounded v c.qubits-qubits.ensures.valid c.requires.shallow) in
    all x _ (subst (λ (n : ℕ). x < n) (sym same) below)

pub loop-index-preserved : goal.loop-index-preserved
loop-index-preserved c =
    let v = c.args.circuit.now in
    let xs = c.args.indices.now in
    let i = c.loop-index.index-index in
    let x = get_or xs i 0 in
    let text = c.loop-index.text.items in
    let y = c.least-k.result.0 in
    let k = c.least-k.result.1 in
    let within : i < length xs = c.loop-index-test.true in
    let below : x < 2 ^ v.qubits = c.requires.below i 0 within in
    let form = form_is v c.args.probs.now x c.weight-weight.result k _ y c.requires.exact c.weight-weight.ensures.value below c.least-k.ensures.form in
    let pushed : AreProbLines v (take i xs ++ x ∷ []) (text ++ prob_line v.qubits x y k) = AreProbLines-push v (take i xs) text x y k c.loop-index.invariant form in
    let written : c.print_prob.new.out.items ≡ text ++ prob_line v.qubits x y k =
    c.in_ok-print_prob.ensures.ok ∙ ap (λ (n : ℕ). text ++ prob_line n x y k) c.qubits-qubits.ensures.value in
    subst (λ (ys : List ℕ). AreProbLines v ys c.print_prob.new.out.items) (sym (take_more xs i 0 within))
    (subst (AreProbLines v (take i xs ++ x ∷ [])) (sym written) pushed)
