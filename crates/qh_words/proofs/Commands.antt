-- A command with options, one after the other.
use Rattle.std.proofs.Common.{◌≡◌, ◌∙◌, ◌+◌, ◌<◌, ℕ, List, [], ◌∷◌, ◌++◌, length, get_or, take, map, fold, ap, sym}
use Rattle.std.proofs.lemmas.List.{take_more, map-append, get_or-map}
use Rattle.std.proofs.lemmas.List.Sums.{fold_push}
use Rattle.std.specs.Borrow.{Bor}
use Rattle.clap.specs.Words.{App}
use Rattle.qh_words.specs.Command.{with_letter}

-- an option's name and letter
abbrev pub Named : Type 0
Named = Bor (List ℕ) × ℕ

abbrev pub name_of : Named → List ℕ
name_of o = o.0.now

abbrev pub letter_of : Named → ℕ
letter_of o = o.1

-- the name of the option at a place
pub name_at : (options : List Named) (i : ℕ) (d : Named) → i < length options
    → map name_of options ≡ map (λ o. letter_of o ∷ []) options
    → name_of (get_or options i d) ≡ letter_of (get_or options i d) ∷ []
name_at options i d within named =
    sym (get_or-map name_of options i d [] within)
    ∙ ap (λ (names : List (List ℕ)). get_or names i []) named
    ∙ get_or-map (λ o. letter_of o ∷ []) options i d [] within

-- one option more
pub one_more : (options : List Named) (i : ℕ) (d : Named) (start before after : App) → i < length options
    → before ≡ fold with_letter start (map letter_of (take i options))
    → after ≡ with_letter before (letter_of (get_or options i d))
    → after ≡ fold with_letter start (map letter_of (take (i + 1) options))
one_more options i d start before after within so_far next =
    let o = get_or options i d in
    let front = map letter_of (take i options) in
    let letters : map letter_of (take (i + 1) options) ≡ front ++ letter_of o ∷ [] = ap (map letter_of) (take_more options i d within) ∙ map-append letter_of (take i options) (o ∷ []) in
    let all : fold with_letter start (map letter_of (take (i + 1) options)) ≡ with_letter (fold with_letter start front) (letter_of o) = ap (fold with_letter start) letters ∙ fold_push with_letter start front (letter_of o) in
    next ∙ ap (λ (a : App). with_letter a (letter_of o)) so_far ∙ sym all
