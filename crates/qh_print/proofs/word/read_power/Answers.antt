use Rattle.std.proofs.Common.{[], sym, ap, ◌∙◌, lit<, arith, decimal, length}
use Rattle.std.proofs.lemmas.Bool.{eqb-false}
use Rattle.qh_text.proofs.NumberLemmas.{decimal_without}
use Rattle.qh_print.proofs.word.read_power.Goals as goal

pub returns-in_default-clause-only : goal.returns-in_default-clause-only
returns-in_default-clause-only c = λ n l e. absurd (c.in_default.ensures.only (decimal n) [] (decimal_without 10 n (lit< tt) (omega arith)) e)

pub returns-then-not-is_empty-clause-only : goal.returns-then-not-is_empty-clause-only
returns-then-not-is_empty-clause-only c = λ n l e.
    let cut = c.in-Some.ensures.only (decimal n) [] (decimal_without 10 n (lit< tt) (omega arith)) e in
    absurd (eqb-false (length c.in-Some.rest.now) 0 (sym c.is_empty.ensures ∙ c.if-not-is_empty.true) (ap length cut.1))
