-- The entries of a history: the events for which each stands, and their counts.
use Rattle.std.specs.Prelude.{ℕ, ◌<◌, ◌≤◌, Bool, true, false, nat_eq, List, [], ◌∷◌, ◌++◌, count_by}
use Rattle.std.specs.List.{list_any}
use Rattle.qh_limits.specs.Limits.{max_grants}
use Rattle.qh_lease.specs.declared.totals.Totals.{Totals}
use Rattle.qh_core.specs.declared.event.Event.{Event}
use Rattle.qh_core.specs.declared.event.Event.TheVariants.{Grant, GiveBack, Body, OpenGate, Sync, Ack, Halt}
use Rattle.qh_core.specs.declared.noted.Noted.{Noted}
use Rattle.qh_core.specs.declared.noted.Noted.TheVariants.{Granted, Back, Acked, Halted}

-- a range's slot is stored: first its body is made safe, then its open gate
abbrev pub storing : ℕ → List Event
storing range = Body range ∷ Sync ∷ OpenGate range ∷ Sync ∷ []

-- the events of the machine for which an entry stands
abbrev pub events_of : Noted → List Event
events_of (Granted range attempt) = Grant range ∷ []
events_of (Back range attempt) = GiveBack range attempt ∷ []
events_of (Acked range attempt) = storing range ++ Ack range ∷ []
events_of (Halted faults) = Halt ∷ []

abbrev pub is_grant : Noted → Bool
is_grant (Granted range attempt) = true
is_grant (Back range attempt) = false
is_grant (Acked range attempt) = false
is_grant (Halted faults) = false

abbrev pub is_back : Noted → Bool
is_back (Granted range attempt) = false
is_back (Back range attempt) = true
is_back (Acked range attempt) = false
is_back (Halted faults) = false

abbrev pub is_ack : Noted → Bool
is_ack (Granted range attempt) = false
is_ack (Back range attempt) = false
is_ack (Acked range attempt) = true
is_ack (Halted faults) = false

-- how many grants, give-backs and acknowledgements a history has
abbrev pub counted : List Noted → Totals
counted history = record { grants = count_by is_grant history; backs = count_by is_back history; acks = count_by is_ack history }

-- the entry acknowledges this range
abbrev pub acks_range : ℕ → Noted → Bool
acks_range r (Granted range attempt) = false
acks_range r (Back range attempt) = false
acks_range r (Acked range attempt) = nat_eq r range
acks_range r (Halted faults) = false

-- the history has an acknowledgement of this range
abbrev pub acked_in : List Noted → ℕ → Bool
acked_in history range = list_any (acks_range range) history

-- the entry names one of so many ranges, and an attempt that a grant can have, or none where a result came without one
abbrev pub IsEntryOf : ℕ → Noted → Type 0
IsEntryOf ranges (Granted range attempt) = (range < ranges) × (1 ≤ attempt) × (attempt ≤ max_grants)
IsEntryOf ranges (Back range attempt) = (range < ranges) × (attempt ≤ max_grants)
IsEntryOf ranges (Acked range attempt) = (range < ranges) × (attempt ≤ max_grants)
IsEntryOf ranges (Halted faults) = Unit {0}
