-- What contracts see of the two timers.
use Rattle.std.specs.Prelude.{◌≡◌, ◌⊎◌, ℕ, Bool, true, false, List, set, slice_index_or, Option, Some, None}
use Rattle.qh_limits.specs.Counts.{raised}

-- a timer that follows a script: the answers that are left, its counts, and the range and the attempt of the last grant that it was told
pub record Script : Type 0 where
  pub answers : List Bool
  pub granted : ℕ
  pub due : ℕ
  pub not_due : ℕ
  pub last : Option (ℕ × ℕ)

-- a timer that reads the clock: how long a lease lasts, its counts, and of which ranges it knows when they were granted last
pub record Watch : Type 0 where
  pub seconds : Option ℕ
  pub granted : ℕ
  pub due : ℕ
  pub not_due : ℕ
  pub timed : List Bool

-- ---- the script
-- what is left of it once it was told of a grant: the answers stay
abbrev pub told : Script → ℕ → ℕ → Script
told t range attempt = record t { granted = raised t.granted; last = Some (range, attempt) }

-- the next answer, "not due" after the last
abbrev pub next_answer : Script → Bool
next_answer t = slice_index_or t.answers 0 false

-- ---- the clock
-- what it may become once it was told of a grant of this range: of every other range it knows what it knew
abbrev pub Notes : Watch → Watch → ℕ → Type 0
Notes old new range = (known : Bool) × (new ≡ record old { granted = raised old.granted; timed = set old.timed range known })

-- what it may answer of a range: without a number of seconds no, with 0 seconds yes, else yes only where it knows when the range was granted
pub record MayAnswer (t : Watch) (range : ℕ) (answer : Bool) : Type 0 where
  pub never : t.seconds ≡ None → answer ≡ false
  pub at_once : t.seconds ≡ Some 0 → answer ≡ true
  pub timed : answer ≡ true → (t.seconds ≡ Some 0) ⊎ (slice_index_or t.timed range false ≡ true)
