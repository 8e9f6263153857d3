-- A list of wide numbers as contracts see it.
use Rattle.std.specs.Prelude.{ℕ, List}
use Rattle.qh_ring.specs.declared.number.Omega.{Omega}

-- the qubits whose numbers it has memory for, and the numbers that it has
pub record WideNumbers : Type 0 where
  pub qubits : ℕ
  pub numbers : List Omega
