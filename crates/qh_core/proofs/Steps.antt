-- What each event keeps: an acknowledged lease has a stored slot, and a stored slot stays stored.
use Rattle.std.proofs.Common.{◌≡◌, ◌≢◌, ℕ, ◌+◌, Bool, true, false, not, cond, List, [], ◌∷◌, ◌⊎◌, ◌↔◌, inl, inr, map, refl, sym, ap, ◌∙◌, subst}
use Rattle.std.specs.Prelude.{fold, Contains}
use Rattle.std.proofs.lemmas.Bool.{and_parts}
use Rattle.std.proofs.Math.ListN.{get_or-map}
use Rattle.qh_lease.specs.declared.lease.Lease.{Lease}
use Rattle.qh_lease.specs.declared.lease.Lease.TheVariants.{Fresh, Out, Returned, Acked}
use Rattle.qh_lease.specs.Lease.{is_acked, grants_of}
use Rattle.qh_core.specs.declared.event.Event.{Event}
use Rattle.qh_core.specs.declared.event.Event.TheVariants.{Grant, GiveBack, Body, OpenGate, Sync, Ack, Stop, Halt, Crash, Reopen}
use Rattle.qh_core.specs.declared.moved.Moved.TheVariants.{Done, Repeat, Illegal}
use Rattle.qh_core.specs.declared.slot_state.SlotState.{SlotState}
use Rattle.qh_core.specs.declared.slot_state.SlotState.TheVariants.{Closed, BodyWritten, BodySafe, GateWritten, Stored}
use Rattle.qh_core.specs.Machine.{State, lease_of, slot_of, slot_at, runs_for, is_closed, is_body_safe, is_stored, are_pending, synced, slots_after, found_lease, with_lease, with_slot, when, next, crashed, reopened}
use Rattle.qh_core.specs.Law.{AckedAreStored, StoredStay, StoresKept, KeepsExactly}
use Rattle.qh_core.proofs.KeptSlots.{set_cases, slots_after_stays, slots_after_only, slots_after_stored}

-- what holds of the old state, and of the new one where the event is legal, holds of the next one
pub when_keeps : (P : State → Type 0) (legal : Bool) (old new : State) → P old → (legal ≡ true → P new) → P (when legal old new).1
when_keeps P true old new p q = q refl
when_keeps P false old new p q = p

-- what holds of the new state where the event is legal holds of the next one where it is done
pub when_done : (P : State → Type 0) (legal : Bool) (old new : State) → (when legal old new).0 ≡ Done → (legal ≡ true → P new) → P (when legal old new).1
when_done P true old new done q = q refl
when_done P false old new done q = let no : Illegal ≡ Done = done in absurd cc

-- a body write is a repeat, or legal or not
pub body_keeps : (P : State → Type 0) (repeat legal : Bool) (old new : State) → P old → (legal ≡ true → P new) → P (cond repeat (Repeat, old) (when legal old new)).1
body_keeps P true legal old new p q = p
body_keeps P false legal old new p q = when_keeps P legal old new p q

pub is_closed_not_stored : (slot : SlotState) → is_closed slot ≡ true → slot ≢ Stored
is_closed_not_stored slot h e = let no : is_closed Stored ≡ true = subst (λ x. is_closed x ≡ true) e h in cc

pub is_body_safe_not_stored : (slot : SlotState) → is_body_safe slot ≡ true → slot ≢ Stored
is_body_safe_not_stored slot h e = let no : is_body_safe Stored ≡ true = subst (λ x. is_body_safe x ≡ true) e h in cc

pub is_stored_true : (slot : SlotState) → is_stored slot ≡ true → slot ≡ Stored
is_stored_true Closed h = cc
is_stored_true BodyWritten h = cc
is_stored_true BodySafe h = cc
is_stored_true GateWritten h = cc
is_stored_true Stored h = refl

pub found_acked : (slot : SlotState) → found_lease slot ≡ Acked → slot ≡ Stored
found_acked Closed h = cc
found_acked BodyWritten h = cc
found_acked BodySafe h = cc
found_acked GateWritten h = cc
found_acked Stored h = refl

-- a slot that is not stored may be written
pub with_slot_stays : (s : State) (range : ℕ) (slot : SlotState) → slot_of s range ≢ Stored → StoredStay s (with_slot s range slot)
with_slot_stays s range slot open' r h =
    set_cases (λ x. x ≡ Stored) s.slots range r slot Closed (λ same. absurd (open' (subst (λ q. slot_of s q ≡ Stored) same h))) h

pub stored_stays : (s : State) (event : Event) → StoredStay s (next s event)
stored_stays s (Grant r) = when_keeps (StoredStay s) _ s (with_lease s r (Out (grants_of (lease_of s r) + 1))) (λ range h. h) (λ legal range h. h)
stored_stays s (GiveBack r a) = when_keeps (StoredStay s) _ s (with_lease s r (Returned a)) (λ range h. h) (λ legal range h. h)
stored_stays s (Body r) =
    body_keeps (StoredStay s) _ _ s (with_slot s r BodyWritten) (λ range h. h)
    (λ legal. with_slot_stays s r BodyWritten (is_closed_not_stored _ (and_parts (runs_for s r) (is_closed (slot_of s r)) legal).1))
stored_stays s (OpenGate r) =
    when_keeps (StoredStay s) _ s (with_slot s r GateWritten) (λ range h. h)
    (λ legal. with_slot_stays s r GateWritten (is_body_safe_not_stored _ (and_parts (runs_for s r) (is_body_safe (slot_of s r)) legal).1))
stored_stays s Sync = when_keeps (StoredStay s) _ s (record s { slots = map synced s.slots }) (λ range h. h) (λ legal range h. get_or-map synced s.slots range Closed ∙ ap synced h)
stored_stays s (Ack r) = when_keeps (StoredStay s) _ s (with_lease s r Acked) (λ range h. h) (λ legal range h. h)
stored_stays s Stop = λ range h. h
stored_stays s Halt = when_keeps (StoredStay s) _ s (record s { halted = true }) (λ range h. h) (λ legal range h. h)
stored_stays s (Crash kept) = when_keeps (StoredStay s) _ s (crashed s kept) (λ range h. h) (λ legal range h. slots_after_stays kept s.slots range h)
stored_stays s (Reopen kept) = when_keeps (StoredStay s) _ s (reopened s kept) (λ range h. h) (λ legal range h. slots_after_stays kept s.slots range h)

-- a lease may become acknowledged where its slot is stored
pub with_lease_acked : (s : State) (range : ℕ) (lease : Lease) → (lease ≡ Acked → slot_of s range ≡ Stored) → AckedAreStored s → AckedAreStored (with_lease s range lease)
with_lease_acked s range lease new old r =
    set_cases (λ x. x ≡ Acked → slot_of s r ≡ Stored) s.leases range r lease Fresh (λ same h. subst (λ q. slot_of s q ≡ Stored) (sym same) (new h)) (old r)

pub acked_are_stored : (s : State) (event : Event) → AckedAreStored s → AckedAreStored (next s event)
acked_are_stored s (Grant r) acked = when_keeps AckedAreStored _ s (with_lease s r (Out (grants_of (lease_of s r) + 1))) acked (λ legal. with_lease_acked s r (Out (grants_of (lease_of s r) + 1)) (λ h. cc) acked)
acked_are_stored s (GiveBack r a) acked = when_keeps AckedAreStored _ s (with_lease s r (Returned a)) acked (λ legal. with_lease_acked s r (Returned a) (λ h. cc) acked)
acked_are_stored s (Body r) acked =
    body_keeps AckedAreStored _ _ s (with_slot s r BodyWritten) acked
    (λ legal range h. with_slot_stays s r BodyWritten (is_closed_not_stored _ (and_parts (runs_for s r) (is_closed (slot_of s r)) legal).1) range (acked range h))
acked_are_stored s (OpenGate r) acked =
    when_keeps AckedAreStored _ s (with_slot s r GateWritten) acked
    (λ legal range h. with_slot_stays s r GateWritten (is_body_safe_not_stored _ (and_parts (runs_for s r) (is_body_safe (slot_of s r)) legal).1) range (acked range h))
acked_are_stored s Sync acked = when_keeps AckedAreStored _ s (record s { slots = map synced s.slots }) acked (λ legal range h. get_or-map synced s.slots range Closed ∙ ap synced (acked range h))
acked_are_stored s (Ack r) acked =
    when_keeps AckedAreStored _ s (with_lease s r Acked) acked
    (λ legal. with_lease_acked s r Acked (λ _. is_stored_true _ (and_parts (is_stored (slot_of s r)) (not (is_acked (lease_of s r))) (and_parts (runs_for s r) _ legal).1).0) acked)
acked_are_stored s Stop acked = acked
acked_are_stored s Halt acked = when_keeps AckedAreStored _ s (record s { halted = true }) acked (λ legal. acked)
acked_are_stored s (Crash kept) acked =
    when_keeps AckedAreStored _ s (crashed s kept) acked
    (λ legal range h. let no : Fresh ≡ Acked = sym (get_or-map (λ _. Fresh) s.leases range Fresh) ∙ h in absurd cc)
acked_are_stored s (Reopen kept) acked =
    when_keeps AckedAreStored _ s (reopened s kept) acked
    (λ legal range h. found_acked _ (sym (get_or-map found_lease (slots_after kept s.slots) range Closed) ∙ h))

-- the slots after a stop of the machine are the stored and the kept ones
pub stores_kept : (kept : List ℕ) (old new : State) → are_pending old.slots kept ≡ true → new.slots ≡ slots_after kept old.slots → StoresKept kept old new
stores_kept kept old new legal is range =
    subst (λ slots. (slot_at slots range ≡ Stored) ↔ ((slot_of old range ≡ Stored) ⊎ Contains kept range)) (sym is) (
      slots_after_only kept old.slots range,
      λ h. elim h [ inl stored ↦ slots_after_stays kept old.slots range stored | inr is_kept ↦ slots_after_stored kept old.slots range legal is_kept ],
    )

-- a crash or a start stores the kept slots, and no other
pub keeps_exactly : (s : State) (event : Event) → KeepsExactly s event
keeps_exactly s (Grant r) = tt
keeps_exactly s (GiveBack r a) = tt
keeps_exactly s (Body r) = tt
keeps_exactly s (OpenGate r) = tt
keeps_exactly s Sync = tt
keeps_exactly s (Ack r) = tt
keeps_exactly s Stop = tt
keeps_exactly s Halt = tt
keeps_exactly s (Crash kept) = λ done. when_done (StoresKept kept s) _ s (crashed s kept) done (λ legal. stores_kept kept s (crashed s kept) (and_parts s.up (are_pending s.slots kept) legal).1 refl)
keeps_exactly s (Reopen kept) = λ done. when_done (StoresKept kept s) _ s (reopened s kept) done (λ legal. stores_kept kept s (reopened s kept) legal refl)

pub all_acked_are_stored : (events : List Event) (s : State) → AckedAreStored s → AckedAreStored (fold next s events)
all_acked_are_stored [] s acked = acked
all_acked_are_stored (event ∷ events) s acked = all_acked_are_stored events (next s event) (acked_are_stored s event acked)

pub all_stored_stay : (events : List Event) (s : State) → StoredStay s (fold next s events)
all_stored_stay [] s range h = h
all_stored_stay (event ∷ events) s range h = all_stored_stay events (next s event) range (stored_stays s event range h)
