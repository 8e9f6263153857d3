use Rattle.std.proofs.Common.{◌≡◌, take}
use Rattle.qh_prefix.specs.Parts.{in_part}
use Rattle.qh_prefix.specs.Places.{placed}
use Rattle.qh_prefix.proofs.place.place_list.Given as goal

abbrev pub invariant-loop-gate : goal.invariant-loop-gate
invariant-loop-gate l = l.list.items ≡ placed (in_part l.fn.part l.job) (take l.gate-index l.gates)
