-- A text line by line.
use Rattle.std.proofs.Common.{◌≡◌, ◌≢◌, ℕ, ◌+◌, ◌-◌, ◌<◌, ◌≤◌, true, false, List, [], ◌∷◌, ◌++◌, length, get_or, All, take, drop, map, refl, sym, ap, ◌∙◌, arith}
use Rattle.std.specs.Prelude.{◌==◌}
use Rattle.std.specs.List.{slice_split, position_or_len, before_first, after_first}
use Rattle.std.specs.Str.Lines.{strip_carriage_return}
use Rattle.std.proofs.lemmas.Bool.{not_from_true, not_from_false, cond-true, cond-false, ne_eqb}
use Rattle.std.proofs.lemmas.List.{drop-drop, length-drop, take_all, nil_from_length}
use Rattle.std.proofs.lemmas.List.Sums.{fails_before_first}
use Rattle.std.proofs.lemmas.List.Splits.{slice_split_none, slice_split_at, slice_split_first, length-slice_split}
use Rattle.qh_text.specs.LineWords.{is_passed_over}
use Rattle.qh_text.specs.Lines.{is_line_feed, without_empty_last, lines_of, is_content, content_from}

pub lines_of-nil : lines_of [] ≡ []
unfolding lines_of
lines_of-nil = refl

-- a part that others follow is a line
part_before : (part : List ℕ) (parts : List (List ℕ)) → 0 < length parts → without_empty_last (part ∷ parts) ≡ part ∷ without_empty_last parts
part_before part [] some = absurd (omega arith)
part_before part (next ∷ more) some = refl

-- a last part that is not empty is a line
last_part : (part : List ℕ) → 0 < length part → without_empty_last (part ∷ []) ≡ part ∷ []
last_part part some = cond-false (length part == 0) [] (part ∷ []) (ne_eqb (length part) 0 (λ e. omega arith))

-- the first line of a text with an LF ends there
pub lines_of-cut : (text : List ℕ) → position_or_len is_line_feed text < length text
    → lines_of text ≡ strip_carriage_return (take (position_or_len is_line_feed text) text) ∷ lines_of (drop (position_or_len is_line_feed text + 1) text)
unfolding lines_of
lines_of-cut text within =
    let more : 0 < length (slice_split is_line_feed (after_first is_line_feed text)) = omega (arith, length-slice_split is_line_feed (after_first is_line_feed text)) in
    ap (λ parts. map strip_carriage_return (without_empty_last parts)) (slice_split_first is_line_feed text 0 within)
    ∙ ap (map strip_carriage_return) (part_before (before_first is_line_feed text) (slice_split is_line_feed (after_first is_line_feed text)) more)

-- a text without an LF is one line, where it is not empty
pub lines_of-last : (text : List ℕ) → 0 < length text → length text ≤ position_or_len is_line_feed text → lines_of text ≡ strip_carriage_return text ∷ []
unfolding lines_of
lines_of-last text some past =
    ap (λ parts. map strip_carriage_return (without_empty_last parts)) (slice_split_none is_line_feed text (λ k d l. fails_before_first is_line_feed text k d (omega arith)))
    ∙ ap (map strip_carriage_return) (last_part text some)

-- what is cut at the first LF, and the LF dropped
pub line_cut : (text front rest line : List ℕ) (n : ℕ) → n ≡ position_or_len is_line_feed text → front ≡ take n text → rest ≡ drop n text
    → 0 < length rest → line ≡ strip_carriage_return front → lines_of text ≡ line ∷ lines_of (drop 1 rest)
line_cut text front rest line n at is_front is_rest some is_line =
    let within : position_or_len is_line_feed text < length text = omega (arith, length-drop n text, ap (length {A = ℕ}) is_rest) in
    let cut : n < length text = omega arith in
    lines_of-cut text within ∙ rw (← at) (rw (← is_front, ← is_line) (ap (λ r. line ∷ lines_of r) (sym (drop-drop 1 n text) ∙ ap (drop 1) (sym is_rest))))

-- what is left where there is no LF
pub line_last : (text front rest line : List ℕ) (n : ℕ) → n ≡ position_or_len is_line_feed text → front ≡ take n text → rest ≡ drop n text
    → 0 < length text → length rest ≡ 0 → line ≡ strip_carriage_return front → lines_of text ≡ line ∷ lines_of rest
line_last text front rest line n at is_front is_rest some none is_line =
    let past : length text ≤ position_or_len is_line_feed text = omega (arith, length-drop n text, ap (length {A = ℕ}) is_rest) in
    let whole : front ≡ text = is_front ∙ take_all n text (omega arith) in
    lines_of-last text some past ∙ ap (λ l. l ∷ []) (sym (is_line ∙ ap strip_carriage_return whole))
    ∙ ap (λ ls. line ∷ ls) (sym (ap lines_of (nil_from_length rest none) ∙ lines_of-nil))

-- a text without lines has none that is not passed over
pub content_from-nil : (number : ℕ) (text : List ℕ) → lines_of text ≡ [] → content_from number text ≡ []
unfolding content_from
content_from-nil number text none = rw none refl

-- a first line that is passed over
pub content_from-passed : (number : ℕ) (text line rest : List ℕ) → lines_of text ≡ line ∷ lines_of rest → is_passed_over line ≡ true
    → content_from number text ≡ content_from (number + 1) rest
unfolding content_from
content_from-passed number text line rest cut passed =
    rw cut (cond-false (is_content (number, line)) _ _ (not_from_true _ passed))

-- a first line that is not
pub content_from-kept : (number : ℕ) (text line rest : List ℕ) → lines_of text ≡ line ∷ lines_of rest → is_passed_over line ≡ false
    → content_from number text ≡ (number, line) ∷ content_from (number + 1) rest
unfolding content_from
content_from-kept number text line rest cut kept =
    rw cut (cond-true (is_content (number, line)) _ _ (not_from_false _ kept))

-- a line that does not end with a CR stays as it is
strip-none : (line : List ℕ) → All (λ b. b ≢ 13) line → strip_carriage_return line ≡ line
strip-none [] other = refl
strip-none (b ∷ bs) other =
    cond-false (get_or (b ∷ bs) (length (b ∷ bs) - 1) 0 == 13) _ (b ∷ bs) (ne_eqb _ 13 (other (length (b ∷ bs) - 1) 0 (omega arith)))

-- a text that begins with a line and an LF
pub lines_of-line : (line rest : List ℕ) → All (λ b. b ≢ 10) line → All (λ b. b ≢ 13) line → lines_of (line ++ 10 ∷ rest) ≡ line ∷ lines_of rest
unfolding lines_of
lines_of-line line rest whole other =
    let more : 0 < length (slice_split is_line_feed rest) = omega (arith, length-slice_split is_line_feed rest) in
    ap (λ parts. map strip_carriage_return (without_empty_last parts)) (slice_split_at is_line_feed line 10 rest (λ k d l. ne_eqb (get_or line k d) 10 (whole k d l)) refl)
    ∙ ap (map strip_carriage_return) (part_before line (slice_split is_line_feed rest) more)
    ∙ ap (λ l. l ∷ lines_of rest) (strip-none line other)

-- a first line that is not passed over
pub content_from-line : (number : ℕ) (line rest : List ℕ) → All (λ b. b ≢ 10) line → All (λ b. b ≢ 13) line → is_passed_over line ≡ false
    → content_from number (line ++ 10 ∷ rest) ≡ (number, line) ∷ content_from (number + 1) rest
content_from-line number line rest whole other kept = content_from-kept number (line ++ 10 ∷ rest) line rest (lines_of-line line rest whole other) kept
