-- A half as it runs: its state, none from the first operation on that takes a number to 2^126.
use Rattle.std.specs.Prelude.{◌≡◌, ℕ, Bool, true, false, List, Option, Some, None, fold}
use Rattle.qh_ring.specs.declared.number.Omega.{Omega}
use Rattle.qh_ring.specs.States.{applied, listed}
use Rattle.qh_gates.specs.Evolution.{Operation}
use Rattle.qh_plan.specs.MeaningLimits.{state_fits}

-- the state where the test passed
abbrev pub kept_where : Bool → (ℕ → Omega) → Option (ℕ → Omega)
kept_where true v = Some v
kept_where false v = None

-- one operation on a half of n qubits
abbrev pub half_step : ℕ → Option (ℕ → Omega) → Operation → Option (ℕ → Omega)
half_step n None o = None
half_step n (Some v) o = kept_where (state_fits n (applied o.matrix o.qubits v)) (applied o.matrix o.qubits v)

-- these operations in order
abbrev pub half_after : ℕ → Option (ℕ → Omega) → List Operation → Option (ℕ → Omega)
half_after n h os = fold (half_step n) h os

-- what code keeps of a half: the list of its state's 2^n numbers, or none
abbrev pub HoldsHalf : ℕ → Option (ℕ → Omega) → Option (List Omega) → Type 0
HoldsHalf n None numbers = numbers ≡ None
HoldsHalf n (Some v) numbers = numbers ≡ Some (listed n v)
