-- How far the evolution of a circuit has come.
use Rattle.std.specs.Prelude.{ℕ, ◌≤◌, List, take}
use Rattle.qh_ring.specs.declared.number.Omega.{Omega}
use Rattle.qh_ring.specs.States.{listed}
use Rattle.qh_gates.specs.Circuits.{Circuit}
use Rattle.qh_gates.specs.Evolution.{uncut, StateFits}

-- the numbers after the first k gates
abbrev pub numbers_after : Circuit → ℕ → List Omega
numbers_after c k = listed c.qubits (uncut (take k c.gates))

-- the state after each number of gates up to k fits
abbrev pub FitsUpTo : Circuit → ℕ → Type 0
FitsUpTo c k = (n : ℕ) → n ≤ k → StateFits c.qubits (uncut (take n c.gates))
