-- The lines of a text: it is cut at each LF, and a CR that ends a line is taken off.
use Rattle.std.specs.Prelude.{ℕ, ◌==◌, Bool, not, List, [], ◌∷◌, length, map, filter, if◌then◌else◌}
use Rattle.std.specs.List.{slice_split, enumerate_from}
use Rattle.std.specs.Str.Lines.{strip_carriage_return}
use Rattle.qh_text.specs.LineWords.{is_passed_over}

abbrev pub is_line_feed : ℕ → Bool
is_line_feed b = b == 10

-- what stands after the last LF is a line where it is not empty
abbrev pub without_empty_last : List (List ℕ) → List (List ℕ)
without_empty_last [] = []
without_empty_last (part ∷ []) = if length part == 0 then [] else part ∷ []
without_empty_last (part ∷ next ∷ more) = part ∷ without_empty_last (next ∷ more)

unfoldable pub lines_of : List ℕ → List (List ℕ)
lines_of text = map strip_carriage_return (without_empty_last (slice_split is_line_feed text))

-- each line with its number, where the first has this one
abbrev pub numbered_from : ℕ → List ℕ → List (ℕ × List ℕ)
numbered_from number text = enumerate_from number (lines_of text)

abbrev pub is_content : ℕ × List ℕ → Bool
is_content line = not (is_passed_over line.1)

-- the lines that are not passed over, each with its number, where the text's first line has this one
unfoldable pub content_from : ℕ → List ℕ → List (ℕ × List ℕ)
content_from number text = filter is_content (numbered_from number text)

-- the lines of a text that are not passed over, each with its number; lines are numbered from 1
abbrev pub content_of : List ℕ → List (ℕ × List ℕ)
content_of text = content_from 1 text
