-- When a circuit has no whole state.
use Rattle.qh_gates.specs.Circuits.{Circuit}
use Rattle.qh_gates.specs.Evolution.{IsUncutOver}
use Rattle.qh_uncut.specs.declared.fault.UncutFault.{UncutFault}
use Rattle.qh_uncut.specs.declared.fault.UncutFault.TheVariants.{Over, Memory}

-- the gate that is told is the first that overflows; want of memory is free
abbrev pub IsCause : Circuit → UncutFault → Type 0
IsCause c (Over gate) = IsUncutOver c gate
IsCause c Memory = Unit {0}
