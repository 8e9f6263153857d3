use Rattle.std.proofs.Common.{sym, ◌∙◌, arith}
use Rattle.qh_text.proofs.LineLemmas.{content_from-nil, content_from-passed, content_from-kept}
use Rattle.qh_text.proofs.content.first_content.Goals as goal

pub returns-then-not-is_passed_over-clause-lines : goal.returns-then-not-is_passed_over-clause-lines
returns-then-not-is_passed_over-clause-lines c =
    c.loop-line.invariant.content
    ∙ content_from-kept _ _ c.in-Some.line.now c.in-Some.more.now c.in-Some.ensures.lines (sym c.is_passed_over.ensures ∙ c.if-not-is_passed_over.true)

pub loop-line-preserved : goal.loop-line-preserved
loop-line-preserved c = record {
  content = c.loop-line.invariant.content
      ∙ content_from-passed _ _ c.in-Some.line.now c.in-Some.more.now c.in-Some.ensures.lines (sym c.is_passed_over.ensures ∙ c.if-not-is_passed_over.false);
  fits = omega (arith, c.in-Some.ensures.shorter);
}

pub returns-clause-lines : goal.returns-clause-lines
returns-clause-lines c = c.loop-line.invariant.content ∙ content_from-nil _ _ c.in_default.ensures.lines
