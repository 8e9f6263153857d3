use Rattle.qh_core.specs.declared.slot_state.SlotState.TheVariants.{Closed}
use Rattle.qh_core.specs.Machine.{survived}
use Rattle.qh_core.proofs.Replaced.{replaced_more}
use Rattle.qh_core.proofs.slots.close_unsafe.Goals as goal

pub loop-slot-preserved : goal.loop-slot-preserved
loop-slot-preserved c =
    replaced_more survived c.args.slots.now c.loop-slot.slots c.loop-slot.slot-index c.survived.result Closed c.loop-slot-test.true c.loop-slot.auto.slots c.loop-slot.invariant c.survived.ensures
