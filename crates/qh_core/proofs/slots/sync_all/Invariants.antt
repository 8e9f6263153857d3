use Rattle.std.proofs.Common.{◌≡◌, ◌++◌, map, take, drop}
use Rattle.qh_core.specs.Machine.{synced}
use Rattle.qh_core.proofs.slots.sync_all.Given as goal

abbrev pub invariant-loop-slot : goal.invariant-loop-slot
invariant-loop-slot l = l.slots ≡ map synced (take l.slot-index l.fn.slots) ++ drop l.slot-index l.fn.slots
