-- Which calls of a disk in memory are to fail.
use Rattle.std.specs.Prelude.{◌<◌, ◌⊎◌, ℕ, List, [], ◌∷◌, Option, Some, None}
use Rattle.std.specs.List.{Contains}
use Rattle.std.specs.Option.{IsSomeAnd}
use Rattle.qh_limits.specs.Counts.{raised}

-- how many calls there were, the numbers of those that fail, and the last that may succeed
pub record CallPlan : Type 0 where
  pub calls : ℕ
  pub fails : List ℕ
  pub stop : Option ℕ

-- one call later
abbrev pub counted : CallPlan → CallPlan
counted p = record { calls = raised p.calls; fails = p.fails; stop = p.stop }

-- the next call is one that fails, or comes after the last that may succeed
abbrev pub IsPlanned : CallPlan → Type 0
IsPlanned p = Contains p.fails (raised p.calls) ⊎ IsSomeAnd p.stop (λ last. last < raised p.calls)

-- the number, if there is one
abbrev pub listed : Option ℕ → List ℕ
listed None = []
listed (Some n) = n ∷ []
