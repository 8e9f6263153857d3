-- What an error of a reader says of a text.
use Rattle.std.specs.Prelude.{◌≡◌, Result, Err}
use Rattle.qh_gates.specs.Circuits.{Circuit}
use Rattle.qh_circuit.specs.declared.fault.CircuitFault.{CircuitFault}
use Rattle.qh_circuit.specs.declared.fault.CircuitFault.TheVariants.{Line, Memory}
use Rattle.qh_circuit.specs.Texts.{FaultyLine}

-- the text's first faulty line with its first fault; want of memory says nothing of the text
abbrev pub Tells : Result Circuit FaultyLine → CircuitFault → Type 0
Tells meaning (Line line why) = meaning ≡ Err (record { line = line; why = why })
Tells meaning Memory = Unit {0}
