-- A loop that replaces each item of a list by a function of it.
use Rattle.std.proofs.Common.{◌≡◌, ℕ, ◌<◌, ◌+◌, List, ◌++◌, length, map, take, drop, get_or, set, arith}
use Rattle.std.proofs.lemmas.List.{get_or_default}
use Rattle.std.proofs.lemmas.List.Edits.{map_over_more}

-- one more item is replaced
pub replaced_more : {X : Type 0} (f : X → X) (xs ys : List X) (i : ℕ) (y d : X) → i < length xs → length ys ≡ length xs → ys ≡ map f (take i xs) ++ drop i xs → y ≡ f (get_or ys i d) → set ys i y ≡ map f (take (i + 1) xs) ++ drop (i + 1) xs
replaced_more f xs ys i y d within same is read =
    rw read (map_over_more f xs ys i (get_or ys i d) within is (get_or_default ys i d (get_or ys i d) (omega arith)))
