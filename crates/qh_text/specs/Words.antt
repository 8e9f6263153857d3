-- Words of a text, and what a text begins with.
use Rattle.std.specs.Prelude.{◌≡◌, ℕ, List, ◌∷◌, ◌++◌}

-- a space and the word
abbrev pub word_of : List ℕ → List ℕ
word_of text = 32 ∷ text

-- the new text begins with the old one
abbrev pub Extends : List ℕ → List ℕ → Type 0
Extends old new = (back : List ℕ) × (new ≡ old ++ back)
