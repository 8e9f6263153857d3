use Rattle.std.proofs.Common.{◌≡◌, map, take}
use Rattle.qh_core.specs.Machine.{found_lease}
use Rattle.qh_core.proofs.leases.find.Given as goal

abbrev pub invariant-loop-range : goal.invariant-loop-range
invariant-loop-range l = take l.range l.leases ≡ map found_lease (take l.range l.slots)
