-- What contracts see of a course, and that the machine gives it when its history is replayed.
use Rattle.std.specs.Prelude.{◌≡◌, ℕ, zero, suc, Bool, true, ◌&&◌, not, if◌then◌else◌, List, [], ◌∷◌, ◌++◌, length, map, fold, Option, is_some, slice_set}
use Rattle.std.specs.List.{flat_map}
use Rattle.qh_lease.specs.declared.lease.Lease.{Lease}
use Rattle.qh_lease.specs.Lease.{lease_at, is_acked}
use Rattle.qh_core.specs.declared.event.Event.{Event}
use Rattle.qh_core.specs.declared.event.Event.TheVariants.{Grant, Reopen}
use Rattle.qh_core.specs.declared.slot_state.SlotState.{SlotState}
use Rattle.qh_core.specs.declared.slot_state.SlotState.TheVariants.{Closed, Stored}
use Rattle.qh_core.specs.Machine.{State, lease_of, is_out_by, start, after, answer_to, next}
use Rattle.qh_core.specs.Law.{is_done}
use Rattle.qh_core.specs.declared.noted.Noted.{Noted}
use Rattle.qh_core.specs.declared.noted.Noted.TheVariants.{Granted, Back, Acked, Halted}
use Rattle.qh_core.specs.Noted.{storing, events_of, acked_in}

-- the lease of each range, what was done since the run began, and the disk's faults at the halt
pub record CourseView : Type 0 where
  pub leases : List Lease
  pub history : List Noted
  pub fault : Option ℕ

-- a course with one lease changed and one more entry
abbrev pub noted : CourseView → ℕ → Lease → Noted → CourseView
noted c range lease note = record c { leases = slice_set c.leases range lease; history = c.history ++ note ∷ [] }

-- not acknowledged
abbrev pub is_open : Lease → Bool
is_open lease = not (is_acked lease)

-- the range was stored before the run began: it is acknowledged, and no entry says so
abbrev pub is_begun : CourseView → ℕ → Bool
is_begun c range = is_acked (lease_at c.leases range) && not (acked_in c.history range)

-- each range below a number that was stored before is stored, in rising order
abbrev pub stored_below : (ℕ → Bool) → ℕ → List Event
stored_below begun zero = []
stored_below begun (suc range) = stored_below begun range ++ (if begun range then storing range else [])

-- these ranges are stored, and then a run starts
abbrev pub opening : ℕ → (ℕ → Bool) → List Event
opening ranges begun = stored_below begun ranges ++ Reopen [] ∷ []

-- the events of a course: the start of its run, and then those of each entry
abbrev pub replay_events : CourseView → List Event
replay_events c = opening (length c.leases) (is_begun c) ++ flat_map events_of c.history

-- the slot of a range with this lease, between two entries
abbrev pub slot_for : Lease → SlotState
slot_for lease = if is_acked lease then Stored else Closed

-- the machine as a course has it
abbrev pub machine_of : CourseView → State
machine_of c = record { leases = c.leases; slots = map slot_for c.leases; up = true; halted = is_some c.fault }

-- the machine answers Done to each of the events
abbrev pub are_done : State → List Event → Bool
are_done s [] = true
are_done s (event ∷ events) = is_done (answer_to s event) && are_done (next s event) events

-- where the entry is a grant, it names the attempt by which the machine grants the range
abbrev pub is_named : State → Noted → Bool
is_named s (Granted range attempt) = is_out_by attempt (lease_of (next s (Grant range)) range)
is_named s (Back range attempt) = true
is_named s (Acked range attempt) = true
is_named s (Halted faults) = true

-- each grant of a history names the attempt by which the machine grants the range
abbrev pub are_named : State → List Noted → Bool
are_named s [] = true
are_named s (note ∷ notes) = is_named s note && are_named (fold next s (events_of note)) notes

-- the replay gives the course, every answer on the way is Done, and each grant names the machine's attempt
pub record IsReplay (c : CourseView) : Type 0 where
  pub state : after (length c.leases) (replay_events c) ≡ machine_of c
  pub legal : are_done (start (length c.leases)) (replay_events c) ≡ true
  pub named : are_named (after (length c.leases) (opening (length c.leases) (is_begun c))) c.history ≡ true
