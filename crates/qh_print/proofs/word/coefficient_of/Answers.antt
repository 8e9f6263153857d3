use Rattle.std.proofs.Common.{sym, ap, ◌∙◌, Ok, ℕ, ℤ, to_z, of_z}
use Rattle.std.specs.Int.{w128}
use Rattle.std.specs.Fmt.{signed_decimal}
use Rattle.std.proofs.lemmas.Slice.Eq.{slice_eq-Decides}
use Rattle.std.proofs.lemmas.Bool.{false≢true}
use Rattle.std.proofs.lemmas.Bool.Decides.{Decides-eqb}
use Rattle.qh_print.proofs.Words.{utf8_signed, parsed_signed, ok_same, stored}
use Rattle.qh_print.proofs.word.coefficient_of.Goals as goal

pub returns-in_default-clause-only : goal.returns-in_default-clause-only
returns-in_default-clause-only c = λ n l e. absurd (c.in_default.ensures.cases.0 (utf8_signed n c.args.word.now l e))

pub returns-else-eq-clause-only : goal.returns-else-eq-clause-only
returns-else-eq-clause-only c = λ n l e.
    let number = ok_same {X = ℤ} {E = ℕ} c.in-Ok-parse.number n (parsed_signed n c.in-Ok.text.now (Ok c.in-Ok-parse.number) l (c.in-Ok.ensures.cases.0 ∙ e) c.in-Ok-parse.ensures.value.0) in
    let spelled = c.as_bytes.ensures.value ∙ c.format.ensures.text ∙ ap (λ m. signed_decimal (to_z w128 (of_z w128 m))) number ∙ ap signed_decimal (stored n l) ∙ sym e in
    let yes = (slice_eq-Decides Decides-eqb c.as_bytes.result.now c.args.word.now c.eq.result c.eq.ensures).1 spelled in
    absurd (false≢true (sym c.if-eq.false ∙ yes))
