use Rattle.std.proofs.Common.{◌≡◌, take, map}
use Rattle.qh_plan.specs.Parts.{local_index}
use Rattle.qh_prefix.specs.Parts.{in_part}
use Rattle.qh_prefix.proofs.index.local_indices.Given as goal

abbrev pub invariant-loop-x : goal.invariant-loop-x
invariant-loop-x l = l.indices.items ≡ map (local_index (in_part l.fn.part l.job) l.job.circuit.qubits) (take l.x-index l.job.bits)
