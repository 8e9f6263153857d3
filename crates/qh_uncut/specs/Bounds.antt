-- How fast the numbers grow.
use Rattle.std.specs.Prelude.{ℕ, ◌^◌, ◌≤◌, List, length, unsigned_abs}
use Rattle.qh_ring.specs.declared.number.Omega.{Omega}
use Rattle.qh_gates.specs.declared.gate.Gate.{Gate}
use Rattle.qh_gates.specs.Evolution.{uncut}

-- each coefficient's magnitude is at most this
pub record IsAtMost (most : ℕ) (z : Omega) : Type 0 where
  pub a : unsigned_abs z.a ≤ most
  pub b : unsigned_abs z.b ≤ most
  pub c : unsigned_abs z.c ≤ most
  pub d : unsigned_abs z.d ≤ most

-- after n gates each number's magnitudes are at most 2^n
abbrev pub AtMostDoubles : Type 0
AtMostDoubles = (gates : List Gate) (x : ℕ) → IsAtMost (2 ^ length gates) (uncut gates x)
