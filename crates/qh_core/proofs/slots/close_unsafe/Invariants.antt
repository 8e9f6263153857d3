use Rattle.std.proofs.Common.{◌≡◌, ◌++◌, map, take, drop}
use Rattle.qh_core.specs.Machine.{survived}
use Rattle.qh_core.proofs.slots.close_unsafe.Given as goal

abbrev pub invariant-loop-slot : goal.invariant-loop-slot
invariant-loop-slot l = l.slots ≡ map survived (take l.slot-index l.fn.slots) ++ drop l.slot-index l.fn.slots
