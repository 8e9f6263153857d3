-- A range is acknowledged at most once.
use Rattle.std.proofs.Common.{◌≡◌, ◌≢◌, ℕ, ◌+◌, ◌<◌, ◌≤◌, Bool, true, false, ◌&&◌, not, List, [], ◌∷◌, length, map, refl, sym, ap, ◌∙◌, subst, arith, nat_lt, nat_eq, inl, inr}
use Rattle.std.proofs.lemmas.Bool.{and_parts, ltb-true, eqb-true, not-true, false_from_ne_true, cases_Bool}
use Rattle.std.proofs.lemmas.List.{get_or-set_same}
use Rattle.std.proofs.Math.ListN.{get_or-map}
use Rattle.qh_lease.specs.declared.lease.Lease.{Lease}
use Rattle.qh_lease.specs.declared.lease.Lease.TheVariants.{Fresh, Out, Returned, Acked}
use Rattle.qh_lease.specs.Lease.{is_acked, may_grant, grants_of}
use Rattle.qh_core.specs.declared.event.Event.{Event}
use Rattle.qh_core.specs.declared.event.Event.TheVariants.{Grant, GiveBack, Body, OpenGate, Sync, Ack, Stop, Halt, Crash, Reopen}
use Rattle.qh_core.specs.declared.moved.Moved.{Moved}
use Rattle.qh_core.specs.declared.moved.Moved.TheVariants.{Done, Repeat, Illegal}
use Rattle.qh_core.specs.declared.slot_state.SlotState.TheVariants.{Closed, BodyWritten, Stored, GateWritten}
use Rattle.qh_core.specs.Machine.{State, lease_of, slot_of, runs, runs_for, is_stored, is_out_by, synced, slots_after, found_lease, with_lease, with_slot, when, answer_to, next, crashed, reopened}
use Rattle.qh_core.specs.Law.{is_done, is_ack_of, acknowledgements}
use Rattle.qh_core.proofs.KeptSlots.{set_cases, slots_after_stays}
use Rattle.qh_core.proofs.Steps.{when_keeps, when_done, body_keeps, is_stored_true, stored_stays}

-- what stays so once a range was acknowledged: its slot is stored, and no run that is up grants it
pub record IsRecorded (range : ℕ) (s : State) : Type 0 where
  pub stored : slot_of s range ≡ Stored
  pub acked : s.up ≡ true → lease_of s range ≡ Acked

-- while the machine is up, the lease is acknowledged
abbrev pub IsAckedWhileUp : ℕ → State → Type 0
IsAckedWhileUp range s = s.up ≡ true → lease_of s range ≡ Acked

-- an acknowledged lease passes no test that is false of it
pub not_acked : (test : Lease → Bool) (lease : Lease) → test Acked ≡ false → test lease ≡ true → lease ≢ Acked
not_acked test lease fails passes is = let both : test Acked ≡ true = subst (λ l. test l ≡ true) is passes in cc

-- another lease of another range changes nothing
pub other_lease : (s : State) (range r : ℕ) (lease : Lease) → (s.up ≡ true → lease_of s r ≢ Acked) → IsAckedWhileUp range s → IsAckedWhileUp range (with_lease s r lease)
other_lease s range r lease open' acked up =
    set_cases (λ x. x ≡ Acked) s.leases r range lease Fresh (λ same. absurd (open' up (subst (λ q. lease_of s q ≡ Acked) same (acked up)))) (acked up)

pub acked_stays : (range : ℕ) (s : State) (event : Event) → slot_of s range ≡ Stored → IsAckedWhileUp range s → IsAckedWhileUp range (next s event)
acked_stays range s (Grant r) stored acked =
    when_keeps (IsAckedWhileUp range) _ s (with_lease s r (Out (grants_of (lease_of s r) + 1))) acked
    (λ legal. other_lease s range r _ (λ up. not_acked may_grant (lease_of s r) refl (and_parts (runs_for s r) (may_grant (lease_of s r)) legal).1) acked)
acked_stays range s (GiveBack r a) stored acked =
    when_keeps (IsAckedWhileUp range) _ s (with_lease s r (Returned a)) acked
    (λ legal. other_lease s range r _ (λ up. not_acked (is_out_by a) (lease_of s r) refl (and_parts (runs_for s r) (is_out_by a (lease_of s r)) legal).1) acked)
acked_stays range s (Body r) stored acked = body_keeps (IsAckedWhileUp range) _ _ s (with_slot s r BodyWritten) acked (λ legal. acked)
acked_stays range s (OpenGate r) stored acked = when_keeps (IsAckedWhileUp range) _ s (with_slot s r GateWritten) acked (λ legal. acked)
acked_stays range s Sync stored acked = when_keeps (IsAckedWhileUp range) _ s (record s { slots = map synced s.slots }) acked (λ legal. acked)
acked_stays range s (Ack r) stored acked =
    when_keeps (IsAckedWhileUp range) _ s (with_lease s r Acked) acked
    (λ legal up. set_cases (λ x. x ≡ Acked) s.leases r range Acked Fresh (λ _. refl) (acked up))
acked_stays range s Stop stored acked = acked
acked_stays range s Halt stored acked = when_keeps (IsAckedWhileUp range) _ s (record s { halted = true }) acked (λ legal. acked)
acked_stays range s (Crash kept) stored acked =
    when_keeps (IsAckedWhileUp range) _ s (crashed s kept) acked (λ legal up. let no : false ≡ true = up in absurd cc)
acked_stays range s (Reopen kept) stored acked =
    when_keeps (IsAckedWhileUp range) _ s (reopened s kept) acked
    (λ legal up. get_or-map found_lease (slots_after kept s.slots) range Closed ∙ ap found_lease (slots_after_stays kept s.slots range stored))

pub recorded_stays : (range : ℕ) (s : State) (event : Event) → IsRecorded range s → IsRecorded range (next s event)
recorded_stays range s event h = record { stored = stored_stays s event range h.stored; acked = acked_stays range s event h.stored h.acked }

pub is_done_true : (moved : Moved) → is_done moved ≡ true → moved ≡ Done
is_done_true Done h = refl
is_done_true Repeat h = cc
is_done_true Illegal h = cc

pub done_legal : (legal : Bool) (old new : State) → is_done (when legal old new).0 ≡ true → legal ≡ true
done_legal true old new h = refl
done_legal false old new h = let no : false ≡ true = h in cc

-- where an acknowledgement is legal
pub record IsAcknowledgeable (range : ℕ) (s : State) : Type 0 where
  pub up : s.up ≡ true
  pub within : range < length s.leases
  pub stored : slot_of s range ≡ Stored
  pub open' : is_acked (lease_of s range) ≡ false

pub acknowledgeable : (s : State) (range : ℕ) → is_done (answer_to s (Ack range)) ≡ true → IsAcknowledgeable range s
acknowledgeable s range done =
    let legal = done_legal (runs_for s range && (is_stored (slot_of s range) && not (is_acked (lease_of s range)))) s (with_lease s range Acked) done in
    let parts = and_parts (runs_for s range) (is_stored (slot_of s range) && not (is_acked (lease_of s range))) legal in
    let where' = and_parts (runs s) (nat_lt range (length s.leases)) parts.0 in
    let slot = and_parts (is_stored (slot_of s range)) (not (is_acked (lease_of s range))) parts.1 in
    record {
      up = (and_parts s.up (not s.halted) where'.0).0;
      within = ltb-true range (length s.leases) where'.1;
      stored = is_stored_true (slot_of s range) slot.0;
      open' = not-true (is_acked (lease_of s range)) slot.1;
    }

-- an acknowledgement that is done makes the lease acknowledged
pub ack_acks : (s : State) (range : ℕ) → is_done (answer_to s (Ack range)) ≡ true → IsAckedWhileUp range (next s (Ack range))
ack_acks s range done =
    when_done (IsAckedWhileUp range) _ s (with_lease s range Acked) (is_done_true _ done)
    (λ legal up. get_or-set_same s.leases range Acked Fresh (acknowledgeable s range done).within)

-- a range that was acknowledged is not acknowledged again
pub not_again : (range : ℕ) (s : State) (event : Event) → IsRecorded range s → (is_ack_of range event && is_done (answer_to s event)) ≡ false
not_again range s (Grant r) h = refl
not_again range s (GiveBack r a) h = refl
not_again range s (Body r) h = refl
not_again range s (OpenGate r) h = refl
not_again range s Sync h = refl
not_again range s (Ack r) h = false_from_ne_true (nat_eq r range && is_done (answer_to s (Ack r))) (λ both.
    let parts = and_parts (nat_eq r range) (is_done (answer_to s (Ack r))) both in
    let same : r ≡ range = eqb-true r range parts.0 in
    let legal = acknowledgeable s r parts.1 in
    let acked : lease_of s r ≡ Acked = subst (λ q. lease_of s q ≡ Acked) (sym same) (h.acked legal.up) in
    let no : true ≡ false = sym (ap is_acked acked) ∙ legal.open' in
    cc)
not_again range s Stop h = refl
not_again range s Halt h = refl
not_again range s (Crash kept) h = refl
not_again range s (Reopen kept) h = refl

-- a range that is acknowledged is recorded from then on
pub then_recorded : (range : ℕ) (s : State) (event : Event) → (is_ack_of range event && is_done (answer_to s event)) ≡ true → IsRecorded range (next s event)
then_recorded range s (Grant r) h = let no : false ≡ true = h in absurd cc
then_recorded range s (GiveBack r a) h = let no : false ≡ true = h in absurd cc
then_recorded range s (Body r) h = let no : false ≡ true = h in absurd cc
then_recorded range s (OpenGate r) h = let no : false ≡ true = h in absurd cc
then_recorded range s Sync h = let no : false ≡ true = h in absurd cc
then_recorded range s (Ack r) h =
    let parts = and_parts (nat_eq r range) (is_done (answer_to s (Ack r))) h in
    let same : r ≡ range = eqb-true r range parts.0 in
    let legal = acknowledgeable s r parts.1 in
    record {
      stored = stored_stays s (Ack r) range (subst (λ q. slot_of s q ≡ Stored) same legal.stored);
      acked = subst (λ q. IsAckedWhileUp q (next s (Ack r))) same (ack_acks s r parts.1);
    }
then_recorded range s Stop h = let no : false ≡ true = h in absurd cc
then_recorded range s Halt h = let no : false ≡ true = h in absurd cc
then_recorded range s (Crash kept) h = let no : false ≡ true = h in absurd cc
then_recorded range s (Reopen kept) h = let no : false ≡ true = h in absurd cc

pub none_again : (range : ℕ) (events : List Event) (s : State) → IsRecorded range s → acknowledgements range s events ≡ 0
none_again range [] s h = refl
none_again range (event ∷ events) s h =
    rw (not_again range s event h) (let rest = none_again range events (next s event) (recorded_stays range s event h) in omega arith)

pub at_most_once : (range : ℕ) (events : List Event) (s : State) → acknowledgements range s events ≤ 1
at_most_once range [] s = omega arith
at_most_once range (event ∷ events) s = elim (cases_Bool (is_ack_of range event && is_done (answer_to s event))) [
  | inl acked ↦ rw acked (let rest = none_again range events (next s event) (then_recorded range s event acked) in omega arith)
  | inr other ↦ rw other (let rest = at_most_once range events (next s event) in omega arith)
]
