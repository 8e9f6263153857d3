-- What holds over every list of events.
use Rattle.std.specs.Prelude.{◌≡◌, ℕ, ◌+◌, Bool, true, false, ◌&&◌, if◌then◌else◌, nat_eq, List, [], ◌∷◌, ◌↔◌, ◌⊎◌, Contains}
use Rattle.qh_lease.specs.declared.lease.Lease.TheVariants.{Acked}
use Rattle.qh_core.specs.declared.event.Event.{Event}
use Rattle.qh_core.specs.declared.event.Event.TheVariants.{Grant, GiveBack, Body, OpenGate, Sync, Ack, Stop, Halt, Crash, Reopen}
use Rattle.qh_core.specs.declared.moved.Moved.{Moved}
use Rattle.qh_core.specs.declared.moved.Moved.TheVariants.{Done, Repeat, Illegal}
use Rattle.qh_core.specs.declared.slot_state.SlotState.TheVariants.{Stored}
use Rattle.qh_core.specs.Machine.{State, lease_of, slot_of, answer_to, next}

-- an acknowledged lease has a stored slot
abbrev pub AckedAreStored : State → Type 0
AckedAreStored s = (range : ℕ) → lease_of s range ≡ Acked → slot_of s range ≡ Stored

-- a slot that is stored in the old state is stored in the new one
abbrev pub StoredStay : State → State → Type 0
StoredStay old new = (range : ℕ) → slot_of old range ≡ Stored → slot_of new range ≡ Stored

abbrev pub is_done : Moved → Bool
is_done Done = true
is_done Repeat = false
is_done Illegal = false

abbrev pub is_ack_of : ℕ → Event → Bool
is_ack_of range (Grant r) = false
is_ack_of range (GiveBack r a) = false
is_ack_of range (Body r) = false
is_ack_of range (OpenGate r) = false
is_ack_of range Sync = false
is_ack_of range (Ack r) = nat_eq r range
is_ack_of range Stop = false
is_ack_of range Halt = false
is_ack_of range (Crash kept) = false
is_ack_of range (Reopen kept) = false

-- how many acknowledgements of the range are answered Done
abbrev pub acknowledgements : ℕ → State → List Event → ℕ
acknowledgements range s [] = 0
acknowledgements range s (event ∷ events) = (if is_ack_of range event && is_done (answer_to s event) then 1 else 0) + acknowledgements range (next s event) events

-- in the new state a slot is stored exactly where it was in the old one, or is kept
abbrev pub StoresKept : List ℕ → State → State → Type 0
StoresKept kept old new = (range : ℕ) → (slot_of new range ≡ Stored) ↔ ((slot_of old range ≡ Stored) ⊎ Contains kept range)

-- a crash or a start that is answered Done stores the kept slots, and no other
abbrev pub KeepsExactly : State → Event → Type 0
KeepsExactly s (Grant r) = Unit {0}
KeepsExactly s (GiveBack r a) = Unit {0}
KeepsExactly s (Body r) = Unit {0}
KeepsExactly s (OpenGate r) = Unit {0}
KeepsExactly s Sync = Unit {0}
KeepsExactly s (Ack r) = Unit {0}
KeepsExactly s Stop = Unit {0}
KeepsExactly s Halt = Unit {0}
KeepsExactly s (Crash kept) = answer_to s (Crash kept) ≡ Done → StoresKept kept s (next s (Crash kept))
KeepsExactly s (Reopen kept) = answer_to s (Reopen kept) ≡ Done → StoresKept kept s (next s (Reopen kept))
