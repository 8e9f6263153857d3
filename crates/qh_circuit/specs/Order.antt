-- What a reader keeps of the gate lines so far.
use Rattle.std.specs.Prelude.{◌≡◌, ℕ, ◌<◌, ◌≤◌, List, All, if◌then◌else◌}
use Rattle.std.specs.List.{list_any}
use Rattle.std.specs.Int.{bit_at}
use Rattle.qh_gates.specs.declared.gate.Gate.{Gate}
use Rattle.qh_circuit.specs.declared.latest.Latest.{Latest}
use Rattle.qh_circuit.specs.GateLines.{last_time, uses_at}

-- these are the last time and the qubits used at that time, where the gate lines so far have these gates, and no time is later
pub record IsLatest (latest : Latest) (before : List Gate) : Type 0 where
  pub time : latest.time ≡ last_time before
  pub rising : All (λ gate. gate.time ≤ latest.time) before
  pub used : (qubit : ℕ) → qubit < 64 → bit_at latest.used qubit ≡ (if list_any (uses_at latest.time qubit) before then 1 else 0)
