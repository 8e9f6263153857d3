-- What an uncut circuit does to a state, without the factors 1/sqrt 2.
use Rattle.std.specs.Prelude.{◌==◌, ℕ, ◌+◌, ◌^◌, ◌<◌, ◌≤◌, List, [], ◌∷◌, length, map, take, if◌then◌else◌}
use Rattle.qh_limits.specs.Limits.{coefficient_bits}
use Rattle.qh_ring.specs.declared.number.Omega.{Omega}
use Rattle.qh_ring.specs.Numbers.{IsWithin}
use Rattle.qh_ring.specs.Matrices.{number_in}
use Rattle.qh_ring.specs.States.{applied, ground}
use Rattle.qh_gates.specs.declared.gate.Gate.{Gate}
use Rattle.qh_gates.specs.Tables.{matrix_of, qubits_of}
use Rattle.qh_gates.specs.Circuits.{Circuit}

-- a matrix on some qubits
pub record Operation : Type 0 where
  pub matrix : ℕ → ℕ → Omega
  pub qubits : List ℕ

-- the state after these operations, in order
abbrev pub evolved : (ℕ → Omega) → List Operation → ℕ → Omega
evolved v [] = v
evolved v (o ∷ os) = evolved (applied o.matrix o.qubits v) os

-- the qubits of a gate, its first first
abbrev pub wires : Gate → List ℕ
wires g = if qubits_of g.kind == 2 then g.q0 ∷ g.q1 ∷ [] else g.q0 ∷ []

-- a gate's matrix on its qubits
abbrev pub operation_of : Gate → Operation
operation_of g = record { matrix = number_in (matrix_of g.kind); qubits = wires g }

-- the state after every gate in order, from the state with all qubits 0
abbrev pub uncut : List Gate → ℕ → Omega
uncut gates = evolved ground (map operation_of gates)

-- each of the state's 2^n numbers is within 126 bits
abbrev pub StateFits : ℕ → (ℕ → Omega) → Type 0
StateFits n v = (x : ℕ) → x < 2 ^ n → IsWithin coefficient_bits (v x)

-- the state after each number of gates fits
abbrev pub NeverOver : Circuit → Type 0
NeverOver c = (n : ℕ) → n ≤ length c.gates → StateFits c.qubits (uncut (take n c.gates))

-- the first gate after which a coefficient has a magnitude of 2^126 or more
pub record IsUncutOver (c : Circuit) (gate : ℕ) : Type 0 where
  pub within : gate < length c.gates
  pub before : (n : ℕ) → n ≤ gate → StateFits c.qubits (uncut (take n c.gates))
  pub over : StateFits c.qubits (uncut (take (gate + 1) c.gates)) → ⊥
