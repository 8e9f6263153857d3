-- Operations on the numbers of a half.
use Rattle.std.specs.Prelude.{ℕ, List, Option}
use Rattle.qh_ring.specs.declared.number.Omega.{Omega}
use Rattle.qh_passes.specs.declared.turn.Turn.{Turn}
use Rattle.qh_passes.specs.Turns.{matrix_in, qubits_in}
use Rattle.qh_gates.specs.Evolution.{Operation}
use Rattle.qh_plan.specs.Traces.{half_after, HoldsHalf}

-- a turn as an operation
abbrev pub operation_in : Turn → Operation
operation_in turn = record { matrix = matrix_in turn; qubits = qubits_in turn }

-- whatever state of n qubits the old numbers are of, the new ones are of that state after the operations
pub record IsAfter (n : ℕ) (os : List Operation) (old new : Option (List Omega)) : Type 0 where
  pub step : (state : Option (ℕ → Omega)) → HoldsHalf n state old → HoldsHalf n (half_after n state os) new
