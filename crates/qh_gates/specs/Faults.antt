-- When a gate may not be pushed.
use Rattle.std.specs.Prelude.{◌≡◌, ◌<◌, ◌≤◌, ◌⊎◌, length, Any}
use Rattle.qh_limits.specs.Limits.{max_gates}
use Rattle.qh_gates.specs.declared.gate.Gate.{Gate}
use Rattle.qh_gates.specs.declared.gate.GateFault.{GateFault}
use Rattle.qh_gates.specs.declared.gate.GateFault.TheVariants.{BadQubit, SameQubit, TimeBack, Overlap, Full}
use Rattle.qh_gates.specs.Tables.{qubits_of}
use Rattle.qh_gates.specs.Circuits.{Circuit}

abbrev pub Shares : Gate → Gate → Type 0
Shares g h = (g.q0 ≡ h.q0) ⊎ ((g.q0 ≡ h.q1) ⊎ ((g.q1 ≡ h.q0) ⊎ (g.q1 ≡ h.q1)))

abbrev pub Applies : Circuit → Gate → GateFault → Type 0
Applies c g BadQubit = (c.qubits ≤ g.q0) ⊎ (c.qubits ≤ g.q1)
Applies c g SameQubit = (qubits_of g.kind ≡ 2) × (g.q0 ≡ g.q1)
Applies c g TimeBack = Any (λ h. g.time < h.time) c.gates
Applies c g Overlap = Any (λ h. (h.time ≡ g.time) × Shares g h) c.gates
Applies c g Full = max_gates ≤ length c.gates

-- no fault that stands before this one applies
abbrev pub NoneBefore : Circuit → Gate → GateFault → Type 0
NoneBefore c g BadQubit = Unit {0}
NoneBefore c g SameQubit = ¬ Applies c g BadQubit
NoneBefore c g TimeBack = (¬ Applies c g BadQubit) × (¬ Applies c g SameQubit)
NoneBefore c g Overlap = (¬ Applies c g BadQubit) × (¬ Applies c g SameQubit) × (¬ Applies c g TimeBack)
NoneBefore c g Full = (¬ Applies c g BadQubit) × (¬ Applies c g SameQubit) × (¬ Applies c g TimeBack) × (¬ Applies c g Overlap)

abbrev pub IsAccepted : Circuit → Gate → Type 0
IsAccepted c g = NoneBefore c g Full × (¬ Applies c g Full)
