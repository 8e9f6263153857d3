-- A line word by word.
use Rattle.std.proofs.Common.{◌≡◌, ℕ, ◌+◌, ◌<◌, ◌≤◌, Bool, true, false, not, List, [], ◌∷◌, ◌++◌, length, get_or, take, drop, filter, nat_lt, refl, sym, ap, ◌∙◌, arith, cond, ⊎_elim}
use Rattle.std.specs.List.{prefix_len, position_or_len, slice_split, after_first, All}
use Rattle.std.proofs.lemmas.Bool.{cases_lt, cond-true, lt-ltb}
use Rattle.std.proofs.lemmas.List.{drop-drop, drop_more, drop_all, take_all, nil_from_length, length-take, length-drop, get_or-take}
use Rattle.std.proofs.lemmas.List.Sums.{prefix_len-le-length, prefix_len_stops, fails_before_first, passes_at_first}
use Rattle.std.proofs.lemmas.List.Splits.{slice_split-cons_yes, slice_split_none, slice_split_at, slice_split_first}
use Rattle.qh_text.specs.LineWords.{is_space, is_some_word, without_spaces_before, words_of}

pub words_of-nil : words_of [] ≡ []
unfolding words_of
words_of-nil = refl

-- a space or a tab in front changes nothing
pub words_of-space : (b : ℕ) (line : List ℕ) → is_space b ≡ true → words_of (b ∷ line) ≡ words_of line
unfolding words_of
words_of-space b line h = rw (slice_split-cons_yes is_space b line h) refl

-- nor do all of them
pub words_of-spaces : (line : List ℕ) → words_of line ≡ words_of (drop (prefix_len is_space line) line)
words_of-spaces [] = refl
words_of-spaces (b ∷ bs) = by_case (is_space b) refl (words_of-spaces bs)
  where
    by_case : (v : Bool) → is_space b ≡ v → words_of bs ≡ words_of (drop (prefix_len is_space bs) bs)
        → words_of (b ∷ bs) ≡ words_of (drop (cond v (1 + prefix_len is_space bs) 0) (b ∷ bs))
    by_case true h rest = words_of-space b bs h ∙ rest ∙ ap words_of (drop-drop (prefix_len is_space bs) 1 (b ∷ bs))
    by_case false h rest = refl

-- a first word is kept
filter-word : (word : List ℕ) (words : List (List ℕ)) → 0 < length word → filter is_some_word (word ∷ words) ≡ word ∷ filter is_some_word words
filter-word word words some = cond-true (nat_lt 0 (length word)) (word ∷ filter is_some_word words) (filter is_some_word words) (lt-ltb 0 (length word) some)

no_space : (line : List ℕ) (n : ℕ) → n ≤ position_or_len is_space line → All (λ b. is_space b ≡ false) (take n line)
no_space line n small k d below =
    let lt : k < n = omega (arith, length-take n line) in
    let here : k < position_or_len is_space line = omega arith in
    rw (get_or-take n line k d lt) (fails_before_first is_space line k d here)

-- a word that ends at a space or a tab
word_then_space : (line : List ℕ) → 0 < position_or_len is_space line → position_or_len is_space line < length line
    → words_of line ≡ take (position_or_len is_space line) line ∷ words_of (drop (position_or_len is_space line) line)
unfolding words_of
word_then_space line some within =
    let at : ℕ = position_or_len is_space line in
    let long : 0 < length (take at line) = omega (arith, length-take at line) in
    ap (filter is_some_word) (slice_split_first is_space line 0 within)
    ∙ filter-word (take at line) (slice_split is_space (after_first is_space line)) long
    ∙ ap (λ ws. take at line ∷ ws)
    (sym (ap words_of (drop_more line at 0 within) ∙ words_of-space (get_or line at 0) (drop (at + 1) line) (passes_at_first is_space line 0 within)))

-- a word that ends with the line
word_then_end : (line : List ℕ) → 0 < position_or_len is_space line → length line ≤ position_or_len is_space line
    → words_of line ≡ take (position_or_len is_space line) line ∷ words_of (drop (position_or_len is_space line) line)
unfolding words_of
word_then_end line some past =
    let at : ℕ = position_or_len is_space line in
    let whole : take at line ≡ line = take_all at line past in
    let long : 0 < length line = omega (arith, prefix_len-le-length (λ b. not (is_space b)) line) in
    ap (filter is_some_word) (slice_split_none is_space line (λ k d l. fails_before_first is_space line k d (omega arith)))
    ∙ filter-word line [] long
    ∙ ap (λ w. w ∷ []) (sym whole)
    ∙ ap (λ ws. take at line ∷ ws) (sym (ap words_of (drop_all at line past) ∙ words_of-nil))

-- the first word of a line that begins with one ends at the first space or tab, or with the line
pub words_of-word : (line : List ℕ) → 0 < position_or_len is_space line
    → words_of line ≡ take (position_or_len is_space line) line ∷ words_of (drop (position_or_len is_space line) line)
words_of-word line some =
    ⊎_elim (word_then_space line some) (word_then_end line some) (cases_lt (position_or_len is_space line) (length line))

-- what stands behind the spaces and tabs in front begins with a word, where it is not empty
begins_with_word : (line : List ℕ) → 0 < length (without_spaces_before line) → 0 < position_or_len is_space (without_spaces_before line)
begins_with_word line some =
    let at : ℕ = prefix_len is_space line in
    let within : at < length line = omega (arith, length-drop at line) in
    let no : is_space (get_or line at 0) ≡ false = prefix_len_stops is_space line 0 within in
    rw (drop_more line at 0 within) (rw no (omega arith))

-- where nothing stands behind the spaces and tabs in front, there is no word
pub no_word : (line rest : List ℕ) → rest ≡ without_spaces_before line → length rest ≡ 0 → words_of line ≡ []
no_word line rest is none = words_of-spaces line ∙ ap words_of (sym is ∙ nil_from_length rest none) ∙ words_of-nil

-- the first word of a line, cut at the first space or tab behind it
pub record IsFirstWord (line word behind : List ℕ) : Type 0 where
  pub words : words_of line ≡ word ∷ words_of behind
  pub not_empty : 0 < length word

pub first_word : (line rest word behind : List ℕ) (n : ℕ) → rest ≡ without_spaces_before line → 0 < length rest
    → n ≡ position_or_len is_space rest → word ≡ take n rest → behind ≡ drop n rest → IsFirstWord line word behind
first_word line rest word behind n is some at front back =
    let begins : 0 < position_or_len is_space rest = rw is (begins_with_word line (rw (← is) some)) in
    record {
      words = words_of-spaces line ∙ ap words_of (sym is) ∙ words_of-word rest begins
          ∙ rw (← at) (rw (← front, ← back) refl);
      not_empty = omega (arith, length-take n rest, ap (length {A = ℕ}) front, prefix_len-le-length (λ b. not (is_space b)) rest);
    }

-- a word alone
pub words_of-one : (word : List ℕ) → All (λ b. is_space b ≡ false) word → 0 < length word → words_of word ≡ word ∷ []
unfolding words_of
words_of-one word solid some = ap (filter is_some_word) (slice_split_none is_space word solid) ∙ filter-word word [] some

-- a word in front of a space or a tab
pub words_of-before : (word : List ℕ) (b : ℕ) (rest : List ℕ) → All (λ b. is_space b ≡ false) word → 0 < length word → is_space b ≡ true
    → words_of (word ++ b ∷ rest) ≡ word ∷ words_of rest
unfolding words_of
words_of-before word b rest solid some space =
    ap (filter is_some_word) (slice_split_at is_space word b rest solid space) ∙ filter-word word (slice_split is_space rest) some
