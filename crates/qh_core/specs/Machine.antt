-- The machine: its states, the table of its events, and the state after a list of events.
use Rattle.std.specs.Prelude.{ℕ, ◌+◌, Bool, true, false, ◌&&◌, not, if◌then◌else◌, nat_eq, nat_lt, List, length, map, fold, replicate, slice_set, slice_index_or}
use Rattle.std.specs.List.{list_all}
use Rattle.qh_lease.specs.declared.lease.Lease.{Lease}
use Rattle.qh_lease.specs.declared.lease.Lease.TheVariants.{Fresh, Out, Returned, Acked}
use Rattle.qh_lease.specs.Lease.{lease_at, grants_of, is_acked, may_grant}
use Rattle.qh_core.specs.declared.event.Event.{Event}
use Rattle.qh_core.specs.declared.event.Event.TheVariants.{Grant, GiveBack, Body, OpenGate, Sync, Ack, Stop, Halt, Crash, Reopen}
use Rattle.qh_core.specs.declared.moved.Moved.{Moved}
use Rattle.qh_core.specs.declared.moved.Moved.TheVariants.{Done, Repeat, Illegal}
use Rattle.qh_core.specs.declared.slot_state.SlotState.{SlotState}
use Rattle.qh_core.specs.declared.slot_state.SlotState.TheVariants.{Closed, BodyWritten, BodySafe, GateWritten, Stored}

-- a lease and a slot for each range, and whether the machine is up, and whether it is halted
pub record State : Type 0 where
  pub leases : List Lease
  pub slots : List SlotState
  pub up : Bool
  pub halted : Bool

abbrev pub lease_of : State → ℕ → Lease
lease_of s range = lease_at s.leases range

abbrev pub slot_at : List SlotState → ℕ → SlotState
slot_at slots range = slice_index_or slots range Closed

abbrev pub slot_of : State → ℕ → SlotState
slot_of s range = slot_at s.slots range

-- up and not halted
abbrev pub runs : State → Bool
runs s = s.up && not s.halted

-- running, and the range is one of the machine's
abbrev pub runs_for : State → ℕ → Bool
runs_for s range = runs s && nat_lt range (length s.leases)

-- all leases are fresh and all slots closed
abbrev pub start : ℕ → State
start ranges = record { leases = replicate ranges Fresh; slots = replicate ranges Closed; up = true; halted = false }

abbrev pub is_out_by : ℕ → Lease → Bool
is_out_by attempt Fresh = false
is_out_by attempt (Out held) = nat_eq held attempt
is_out_by attempt (Returned held) = false
is_out_by attempt Acked = false

abbrev pub is_closed : SlotState → Bool
is_closed Closed = true
is_closed BodyWritten = false
is_closed BodySafe = false
is_closed GateWritten = false
is_closed Stored = false

abbrev pub is_body_safe : SlotState → Bool
is_body_safe Closed = false
is_body_safe BodyWritten = false
is_body_safe BodySafe = true
is_body_safe GateWritten = false
is_body_safe Stored = false

abbrev pub is_gate_written : SlotState → Bool
is_gate_written Closed = false
is_gate_written BodyWritten = false
is_gate_written BodySafe = false
is_gate_written GateWritten = true
is_gate_written Stored = false

abbrev pub is_stored : SlotState → Bool
is_stored Closed = false
is_stored BodyWritten = false
is_stored BodySafe = false
is_stored GateWritten = false
is_stored Stored = true

-- each of these slots has a written gate
abbrev pub are_pending : List SlotState → List ℕ → Bool
are_pending slots kept = list_all (λ range. is_gate_written (slot_at slots range)) kept

-- a slot after a sync
abbrev pub synced : SlotState → SlotState
synced Closed = Closed
synced BodyWritten = BodySafe
synced BodySafe = BodySafe
synced GateWritten = Stored
synced Stored = Stored

-- a slot that is not kept, after the machine stopped
abbrev pub survived : SlotState → SlotState
survived Closed = Closed
survived BodyWritten = Closed
survived BodySafe = Closed
survived GateWritten = Closed
survived Stored = Stored

-- each kept slot becomes stored, every other slot but a stored one closed
abbrev pub slots_after : List ℕ → List SlotState → List SlotState
slots_after kept slots = map survived (fold (λ those range. slice_set those range Stored) slots kept)

-- the lease with which a run finds a slot
abbrev pub found_lease : SlotState → Lease
found_lease Closed = Fresh
found_lease BodyWritten = Fresh
found_lease BodySafe = Fresh
found_lease GateWritten = Fresh
found_lease Stored = Acked

abbrev pub with_lease : State → ℕ → Lease → State
with_lease s range lease = record s { leases = slice_set s.leases range lease }

abbrev pub with_slot : State → ℕ → SlotState → State
with_slot s range slot = record s { slots = slice_set s.slots range slot }

abbrev pub with_slots : State → List SlotState → State
with_slots s slots = record s { slots = slots }

abbrev pub halted : State → State
halted s = record s { halted = true }

abbrev pub crashed : State → List ℕ → State
crashed s kept = record { leases = map (λ _. Fresh) s.leases; slots = slots_after kept s.slots; up = false; halted = false }

abbrev pub reopened : State → List ℕ → State
reopened s kept = record { leases = map found_lease (slots_after kept s.slots); slots = slots_after kept s.slots; up = true; halted = false }

-- where it is legal the event is done and the state changes, else nothing does
abbrev pub when : Bool → State → State → Moved × State
when legal old new = if legal then (Done, new) else (Illegal, old)

-- the answer to an event and the state after it: where the event is legal, and what it changes
abbrev pub step : State → Event → Moved × State
step s (Grant r) = when (runs_for s r && may_grant (lease_of s r)) s (with_lease s r (Out (grants_of (lease_of s r) + 1)))
step s (GiveBack r a) = when (runs_for s r && is_out_by a (lease_of s r)) s (with_lease s r (Returned a))
step s (Body r) = if runs_for s r && is_acked (lease_of s r) then (Repeat, s) else when (runs_for s r && is_closed (slot_of s r)) s (with_slot s r BodyWritten)
step s (OpenGate r) = when (runs_for s r && is_body_safe (slot_of s r)) s (with_slot s r GateWritten)
step s Sync = when (runs s) s (with_slots s (map synced s.slots))
step s (Ack r) = when (runs_for s r && (is_stored (slot_of s r) && not (is_acked (lease_of s r)))) s (with_lease s r Acked)
step s Stop = (Done, s)
step s Halt = when (runs s) s (halted s)
step s (Crash kept) = when (s.up && are_pending s.slots kept) s (crashed s kept)
step s (Reopen kept) = when (are_pending s.slots kept) s (reopened s kept)

abbrev pub answer_to : State → Event → Moved
answer_to s event = (step s event).0

abbrev pub next : State → Event → State
next s event = (step s event).1

-- the state after a list of events from the start
abbrev pub after : ℕ → List Event → State
after ranges events = fold next (start ranges) events
