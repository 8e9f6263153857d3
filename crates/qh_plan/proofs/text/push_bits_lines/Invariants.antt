use Rattle.std.proofs.Common.{◌≡◌, ◌++◌, take}
use Rattle.std.specs.List.{flat_map}
use Rattle.qh_plan.specs.Texts.{bits_line}
use Rattle.qh_plan.proofs.text.push_bits_lines.Given as goal

abbrev pub invariant-loop-index : goal.invariant-loop-index
invariant-loop-index l = l.text.items ≡ l.initial.text.items ++ flat_map (bits_line l.qubits) (take l.index-index l.bits)
