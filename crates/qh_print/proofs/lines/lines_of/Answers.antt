use Rattle.std.proofs.Common.{◌≡◌, ◌+◌, ◌<◌, ◌++◌, ◌∷◌, [], length, take, get_or, sym, subst, ◌∙◌, arith, List, ℕ}
use Rattle.std.proofs.lemmas.List.{take_more, length-take-le}
use Rattle.qh_ring.specs.declared.number.Omega.{Omega}
use Rattle.qh_ring.specs.Numbers.{IsCanon, nothing}
use Rattle.qh_print.specs.Output.{IsText}
use Rattle.qh_print.proofs.ValueLemmas.{canon_showable}
use Rattle.qh_print.proofs.TextLemmas.{IsText-push}
use Rattle.qh_print.proofs.lines.lines_of.Goals as goal

pub print_line-requires-clause-showable : goal.print_line-requires-clause-showable
print_line-requires-clause-showable c =
    canon_showable _ _ _ (c.requires.bounded c.loop-i.i nothing (omega (arith, c.loop-i-test.true, c.requires.paired))) c.requires.shallow c.reduce-value.ensures

pub loop-i-preserved : goal.loop-i-preserved
loop-i-preserved c =
    let n = c.args.qubits in
    let k = c.args.weight in
    let xs = c.args.indices.now in
    let vs = c.args.values.now in
    let i = c.loop-i.i in
    let below : i < length xs = c.loop-i-test.true in
    let within : i < length vs = omega (arith, c.requires.paired) in
    let canon : IsCanon (get_or vs i nothing) k c.reduce-value.result = c.reduce-value.ensures in
    let even : length (take i vs) ≡ length (take i xs) = length-take-le i vs (omega arith) ∙ sym (length-take-le i xs (omega arith)) in
    let pushed = IsText-push n k (take i xs) (take i vs) c.loop-i.text.items (get_or xs i 0) (get_or vs i nothing) c.reduce-value.result even c.loop-i.invariant canon in
    subst (λ (ys : List ℕ). IsText n k ys (take (i + 1) vs) c.print_line.new.out.items) (sym (take_more xs i 0 below))
    (subst (λ (ws : List Omega). IsText n k (take i xs ++ get_or xs i 0 ∷ []) ws c.print_line.new.out.items) (sym (take_more vs i nothing within))
    (subst (IsText n k (take i xs ++ get_or xs i 0 ∷ []) (take i vs ++ get_or vs i nothing ∷ [])) (sym c.in_ok-print_line.ensures.ok) pushed))
