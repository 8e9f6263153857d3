use Rattle.std.proofs.Common.{◌≡◌, take}
use Rattle.qh_prefix.specs.Parts.{index_on}
use Rattle.qh_prefix.proofs.index.index_on.Given as goal

abbrev pub invariant-loop-number : goal.invariant-loop-number
invariant-loop-number l = l.index ≡ index_on (take l.number l.qubits) l.x
