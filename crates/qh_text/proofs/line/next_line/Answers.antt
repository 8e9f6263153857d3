use Rattle.std.proofs.Common.{◌≡◌, ◌∷◌, sym, ap, ◌∙◌, arith, length, ◌<◌}
use Rattle.std.proofs.lemmas.List.{nil_from_length, take_rest}
use Rattle.std.proofs.lemmas.Bool.Decides.{nat_tests}
use Rattle.qh_text.specs.Lines.{lines_of}
use Rattle.qh_text.proofs.LineLemmas.{line_cut, line_last, lines_of-nil}
use Rattle.qh_text.proofs.line.next_line.Goals as goal

pub returns-then-is_empty-clause-lines : goal.returns-then-is_empty-clause-lines
returns-then-is_empty-clause-lines c =
    let none : length c.args.text.now ≡ 0 = grind (arith, nat_tests) in
    ap lines_of (nil_from_length c.args.text.now none) ∙ lines_of-nil

pub returns-in-empty-clause-lines : goal.returns-in-empty-clause-lines
returns-in-empty-clause-lines c =
    let some : 0 < length c.args.text.now = grind (arith, nat_tests) in
    line_last c.args.text.now _ _ _ _ c.line_length.ensures.value c.split_at.ensures.front c.split_at.ensures.back some (omega arith) c.without_return.ensures

pub returns-in-len1-up-clause-lines : goal.returns-in-len1-up-clause-lines
returns-in-len1-up-clause-lines c =
    line_cut c.args.text.now _ _ _ _ c.line_length.ensures.value c.split_at.ensures.front c.split_at.ensures.back (omega arith) c.without_return-in-len1-up.ensures
    ∙ ap (λ r. c.without_return-in-len1-up.result.now ∷ lines_of r) (sym (take_rest c.split_at.result.1.now 1))
