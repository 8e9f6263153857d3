use Rattle.std.proofs.Common.{◌≡◌, ◌++◌, ◌∷◌, sym, ap, ◌∙◌, lit<, rules, to_z, of_z}
use Rattle.std.specs.Fmt.{signed_decimal}
use Rattle.std.specs.Int.{w128}
use Rattle.std.specs.Prelude.{FitsSigned}
use Rattle.std.proofs.lemmas.Int.{to_z-of_z}
use Rattle.qh_print.proofs.Words.{coefficient_without, none_some, some_same, stored}
use Rattle.qh_print.proofs.word.read_coefficient.Goals as goal

pub returns-in_default-clause-only : goal.returns-in_default-clause-only
returns-in_default-clause-only c = λ n rest l e. absurd (c.in_default.ensures.only (signed_decimal n) rest (coefficient_without 32 n (lit< tt) l) e)

pub returns-in_default-coefficient_of-clause-only : goal.returns-in_default-coefficient_of-clause-only
returns-in_default-coefficient_of-clause-only c = λ n rest l e.
    let cut = c.in-Some.ensures.only (signed_decimal n) rest (coefficient_without 32 n (lit< tt) l) e in
    absurd (none_some n (c.in_default-coefficient_of.ensures.only n l cut.0))

pub returns-clause-found : goal.returns-clause-found
returns-clause-found c =
    let f : FitsSigned w128 c.in-Some-coefficient_of.number = search rules in
    let same : to_z w128 (of_z w128 c.in-Some-coefficient_of.number) ≡ c.in-Some-coefficient_of.number = to_z-of_z w128 _ f in
    c.in-Some.ensures.found ∙ ap (λ x. x ++ 32 ∷ c.in-Some.rest.now) (c.in-Some-coefficient_of.ensures.found ∙ ap signed_decimal (sym same))

pub returns-clause-only : goal.returns-clause-only
returns-clause-only c = λ n rest l e.
    let cut = c.in-Some.ensures.only (signed_decimal n) rest (coefficient_without 32 n (lit< tt) l) e in
    let same = some_same c.in-Some-coefficient_of.number n (c.in-Some-coefficient_of.ensures.only n l cut.0) in
    (ap (λ m. to_z w128 (of_z w128 m)) same ∙ stored n l, cut.1)
