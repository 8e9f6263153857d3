-- A list of numbers with a common factor root^s taken out.
use Rattle.std.specs.Prelude.{ℕ, List, map}
use Rattle.qh_ring.specs.declared.number.Omega.{Omega}
use Rattle.qh_ring.specs.Numbers.{times_root}

-- root^s times each number
abbrev pub with_factor : ℕ → List Omega → List Omega
with_factor s v = map (times_root s) v
