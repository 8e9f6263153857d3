-- The words of a line, and what stands between its outer spaces and tabs.
use Rattle.std.specs.Prelude.{ℕ, ◌-◌, ◌==◌, ◌||◌, Bool, true, List, [], ◌∷◌, length, nat_lt, filter, drop, take}
use Rattle.std.specs.List.{slice_split, prefix_len, suffix_len}
use Rattle.std.specs.Prelude.{slice_index}

-- a space or a tab
abbrev pub is_space : ℕ → Bool
is_space b = b == 32 || b == 9

abbrev pub is_some_word : List ℕ → Bool
is_some_word word = nat_lt 0 (length word)

-- what stands between spaces and tabs, and before the first and after the last of them, where it is not empty
unfoldable pub words_of : List ℕ → List (List ℕ)
words_of line = filter is_some_word (slice_split is_space line)

-- no word, or a first word that begins with `#`
abbrev pub is_blank_or_comment : List (List ℕ) → Bool
is_blank_or_comment [] = true
is_blank_or_comment (word ∷ words) = slice_index word 0 == 35

-- blank lines and comments are passed over
abbrev pub is_passed_over : List ℕ → Bool
is_passed_over line = is_blank_or_comment (words_of line)

abbrev pub without_spaces_before : List ℕ → List ℕ
without_spaces_before line = drop (prefix_len is_space line) line

abbrev pub without_spaces_behind : List ℕ → List ℕ
without_spaces_behind line = take (length line - suffix_len is_space line) line

-- the line without the spaces and tabs at both its ends
unfoldable pub trimmed : List ℕ → List ℕ
trimmed line = without_spaces_behind (without_spaces_before line)
