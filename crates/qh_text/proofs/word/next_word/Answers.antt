use Rattle.std.proofs.Common.{◌≡◌, ◌<◌, arith, length}
use Rattle.std.proofs.lemmas.Bool.Decides.{nat_tests}
use Rattle.qh_text.proofs.WordLemmas.{first_word, no_word}
use Rattle.qh_text.proofs.word.next_word.Goals as goal

pub returns-then-is_empty-clause-words : goal.returns-then-is_empty-clause-words
returns-then-is_empty-clause-words c =
    let none : length c.without_spaces_before-rest.result.now ≡ 0 = grind (arith, nat_tests) in
    no_word c.args.line.now _ c.without_spaces_before-rest.ensures none

pub returns-clause-words : goal.returns-clause-words
returns-clause-words c =
    let some : 0 < length c.without_spaces_before-rest.result.now = grind (arith, nat_tests) in
    (first_word c.args.line.now c.without_spaces_before-rest.result.now _ _ _ c.without_spaces_before-rest.ensures some c.word_length.ensures.value c.split_at.ensures.front c.split_at.ensures.back).words

pub returns-clause-not_empty : goal.returns-clause-not_empty
returns-clause-not_empty c =
    let some : 0 < length c.without_spaces_before-rest.result.now = grind (arith, nat_tests) in
    (first_word c.args.line.now c.without_spaces_before-rest.result.now _ _ _ c.without_spaces_before-rest.ensures some c.word_length.ensures.value c.split_at.ensures.front c.split_at.ensures.back).not_empty
