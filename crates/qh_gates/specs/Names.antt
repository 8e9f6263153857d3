-- The kind that a word names.
use Rattle.std.specs.Prelude.{ℕ, List, [], ◌∷◌, Option}
use Rattle.std.specs.List.{find}
use Rattle.std.specs.Str.{bytes_eq}
use Rattle.qh_gates.specs.declared.kind.Kind.{Kind}
use Rattle.qh_gates.specs.declared.kind.Kind.TheVariants.{H, T, X, Y, Z, X12, Y12, Hz12, Cz, Cnot, Is, S, Sw, Id1, Id2}
use Rattle.qh_gates.specs.Tables.{name_text}

-- every kind
abbrev pub kinds : List Kind
kinds = H ∷ T ∷ X ∷ Y ∷ Z ∷ X12 ∷ Y12 ∷ Hz12 ∷ Cz ∷ Cnot ∷ Is ∷ S ∷ Sw ∷ Id1 ∷ Id2 ∷ []

-- the kind of this name, and none where the word is no name
unfoldable pub kind_named : List ℕ → Option Kind
kind_named word = find (λ kind. bytes_eq (name_text kind) word) kinds
