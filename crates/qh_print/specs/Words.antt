-- A line from its second word on.
use Rattle.std.specs.Prelude.{ℕ, List, ◌∷◌, ◌++◌}
use Rattle.std.specs.Fmt.{signed_decimal}
use Rattle.qh_ring.specs.declared.number.Omega.{Omega}

-- the four coefficients, each with a space behind it, and the rest
abbrev pub numbers_text : Omega → List ℕ → List ℕ
numbers_text z rest =
    signed_decimal z.a ++ 32 ∷ (signed_decimal z.b ++ 32 ∷ (signed_decimal z.c ++ 32 ∷ (signed_decimal z.d ++ 32 ∷ rest)))
