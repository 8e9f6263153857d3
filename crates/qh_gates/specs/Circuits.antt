-- A circuit as contracts see it.
use Rattle.std.specs.Prelude.{◌≡◌, ◌≢◌, ℕ, ◌^◌, ◌<◌, ◌≤◌, List, length, All, sum_by}
use Rattle.std.specs.List.{AllPairs}
use Rattle.qh_limits.specs.Limits.{max_qubits, max_gates}
use Rattle.qh_gates.specs.declared.gate.Gate.{Gate}
use Rattle.qh_gates.specs.Tables.{qubits_of, weight_of}

pub record Circuit : Type 0 where
  pub qubits : ℕ
  pub gates : List Gate

-- a gate on one qubit names it twice
abbrev pub IsGate : Gate → Type 0
IsGate g = qubits_of g.kind ≡ 1 → g.q1 ≡ g.q0

-- both qubits are below the count, and they differ where the gate has two
pub record Fits (qubits : ℕ) (g : Gate) : Type 0 where
  pub first : g.q0 < qubits
  pub second : g.q1 < qubits
  pub one : qubits_of g.kind ≡ 1 → g.q1 ≡ g.q0
  pub two : qubits_of g.kind ≡ 2 → g.q1 ≢ g.q0

-- the later of two gates is not before the other, and at one time they share no qubit
pub record InOrder (earlier later : Gate) : Type 0 where
  pub time : earlier.time ≤ later.time
  pub apart00 : earlier.time ≡ later.time → earlier.q0 ≢ later.q0
  pub apart01 : earlier.time ≡ later.time → earlier.q0 ≢ later.q1
  pub apart10 : earlier.time ≡ later.time → earlier.q1 ≢ later.q0
  pub apart11 : earlier.time ≡ later.time → earlier.q1 ≢ later.q1

-- 1 to 40 qubits, at most 4,096 gates, each of which fits, in order, at times below 2 ^ 32
pub record IsCircuit (c : Circuit) : Type 0 where
  pub some : 1 ≤ c.qubits
  pub few : c.qubits ≤ max_qubits
  pub short : length c.gates ≤ max_gates
  pub fit : All (Fits c.qubits) c.gates
  pub times : All (λ g. g.time < 2 ^ 32) c.gates
  pub ordered : AllPairs InOrder c.gates

-- how many of the gates are scaled by 1/sqrt 2
abbrev pub total_weight : List Gate → ℕ
total_weight gates = sum_by (λ g. weight_of g.kind) gates
