use Rattle.std.proofs.Common.{◌≡◌, ℕ, ◌^◌, ◌<◌, [], ◌++◌, take, drop, decimal, arith, sym, ap, subst, ◌∙◌, append-nil, lit<}
use Rattle.std.specs.List.{flat_map}
use Rattle.std.proofs.lemmas.List.{take_at, drop_at, take_all, take_rest}
use Rattle.qh_text.specs.Decimal.{number_below}
use Rattle.qh_plan.specs.Texts.{word}
use Rattle.qh_text.proofs.CutLemmas.{Without, empty, split_is, stands}
use Rattle.qh_text.proofs.NumberLemmas.{decimal_without}
use Rattle.qh_plan.proofs.SameLemmas.{words_begin, few_digits}
use Rattle.qh_plan.proofs.OneTextLemmas.{number_is}
use Rattle.qh_plan.proofs.RunLemmas.{some_number, none_number}
use Rattle.qh_job_text.proofs.reading.next_number.Goals as goal

no_space : (n : ℕ) → n < 2 ^ 32 → Without 32 (decimal n)
no_space n l = decimal_without 32 n (lit< tt) (few_digits n (omega arith))

pub returns-in_default-clause-only : goal.returns-in_default-clause-only
returns-in_default-clause-only c = λ head n others hh l e. c.in_default.ensures.only head (decimal n ++ flat_map word others) hh e

pub returns-in_default-number_of-clause-only : goal.returns-in_default-number_of-clause-only
returns-in_default-number_of-clause-only c = λ head n others hh l e.
    let cut = c.in-Some.ensures.only head (decimal n ++ flat_map word others) hh e in
    let behind = c.in-Some.behind.now in
    let at = split_is behind (decimal n) (flat_map word others) 32 c.find-at.result c.find-at.ensures.within c.find-at.ensures.before c.find-at.ensures.found (no_space n l) (words_begin others) cut.1 in
    let front : take c.find-at.result behind ≡ decimal n = ap (take c.find-at.result) cut.1 ∙ take_at (decimal n) (flat_map word others) c.find-at.result (sym at) in
    absurd (none_number n (c.in_default-number_of.ensures.computed ∙ ap (number_below (2 ^ 32)) front ∙ number_is n l))

pub returns-clause-only : goal.returns-clause-only
returns-clause-only c = λ head n others hh l e.
    let cut = c.in-Some.ensures.only head (decimal n ++ flat_map word others) hh e in
    let behind = c.in-Some.behind.now in
    let at = split_is behind (decimal n) (flat_map word others) 32 c.find-at.result c.find-at.ensures.within c.find-at.ensures.before c.find-at.ensures.found (no_space n l) (words_begin others) cut.1 in
    let front : take c.find-at.result behind ≡ decimal n = ap (take c.find-at.result) cut.1 ∙ take_at (decimal n) (flat_map word others) c.find-at.result (sym at) in (
      some_number c.in-Some-number_of.number n (c.in-Some-number_of.ensures.computed ∙ ap (number_below (2 ^ 32)) front ∙ number_is n l),
      take_rest behind c.find-at.result ∙ ap (drop c.find-at.result) cut.1 ∙ drop_at (decimal n) (flat_map word others) c.find-at.result (sym at),
    )

pub returns-clause-none : goal.returns-clause-none
returns-clause-none c = λ h. absurd (stands 32 _ c.in-Some.behind.now (subst (Without 32) c.in-Some.ensures.found h))

pub returns-clause-word : goal.returns-clause-word
returns-clause-word c = λ head last hh hl none e.
    let cut = c.in-Some.ensures.only head last hh e in
    let behind = c.in-Some.behind.now in
    let at = split_is behind last [] 32 c.find-at.result c.find-at.ensures.within c.find-at.ensures.before c.find-at.ensures.found hl empty (cut.1 ∙ sym (append-nil last)) in
    let front : take c.find-at.result behind ≡ last = ap (take c.find-at.result) cut.1 ∙ take_all c.find-at.result last (omega arith) in
    absurd (none_number c.in-Some-number_of.number (sym none ∙ sym (c.in-Some-number_of.ensures.computed ∙ ap (number_below (2 ^ 32)) front)))
