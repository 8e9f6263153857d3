use Rattle.std.proofs.Common.{◌∷◌, length, take, sym, ap, ◌∙◌, arith, length-append, ℕ}
use Rattle.std.proofs.lemmas.List.{take_at}
use Rattle.qh_text.proofs.CutLemmas.{cut_is, behind}
use Rattle.qh_text.proofs.cut.cut_at.Goals as goal

pub returns-then-at-bytes-clause-only : goal.returns-then-at-bytes-clause-only
returns-then-at-bytes-clause-only c = λ front back none e.
    let same = cut_is c.args.bytes.now front back c.args.stop c.find-at.result c.find-at.ensures.within c.find-at.ensures.before c.find-at.ensures.found none e in
    omega (arith, ap (length {A = ℕ}) e, length-append front (c.args.stop ∷ back))

pub returns-clause-only : goal.returns-clause-only
returns-clause-only c = λ front back none e.
    let same = cut_is c.args.bytes.now front back c.args.stop c.find-at.result c.find-at.ensures.within c.find-at.ensures.before c.find-at.ensures.found none e in
    (ap (take c.find-at.result) e ∙ take_at front (c.args.stop ∷ back) c.find-at.result (sym same), behind c.args.bytes.now front back c.args.stop c.find-at.result same e)
