use Rattle.std.proofs.Common.{◌≡◌, take}
use Rattle.std.specs.Prelude.{fold, slice_set}
use Rattle.qh_core.specs.declared.slot_state.SlotState.TheVariants.{Stored}
use Rattle.qh_core.proofs.slots.store_kept.Given as goal

abbrev pub invariant-loop-range : goal.invariant-loop-range
invariant-loop-range l = l.slots ≡ fold (λ those range. slice_set those range Stored) l.fn.slots (take l.range-index l.kept)
