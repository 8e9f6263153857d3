-- What the machine does at the events of each entry, where no slot is half written.
use Rattle.std.proofs.Common.{◌≡◌, ◌≢◌, ℕ, ◌+◌, ◌<◌, Bool, true, false, not, ◌&&◌, cond, List, [], ◌∷◌, ◌++◌, length, map, set, refl, sym, ap, ◌∙◌, subst}
use Rattle.std.specs.Prelude.{fold}
use Rattle.std.proofs.lemmas.Bool.{and_from, eq-eqb, lt-ltb}
use Rattle.std.proofs.lemmas.List.{get_or-set_same, set-set, set-get_or, map-set, length-map}
use Rattle.std.proofs.lemmas.List.Sums.{fold-append}
use Rattle.std.proofs.Math.Bool.{and_assoc}
use Rattle.std.proofs.Math.ListN.{get_or-map}
use Rattle.qh_lease.specs.declared.lease.Lease.{Lease}
use Rattle.qh_lease.specs.declared.lease.Lease.TheVariants.{Fresh, Out, Returned, Acked}
use Rattle.qh_lease.specs.Lease.{lease_at, grants_of, is_acked, may_grant}
use Rattle.qh_core.specs.declared.event.Event.{Event}
use Rattle.qh_core.specs.declared.event.Event.TheVariants.{Grant, GiveBack, Body, OpenGate, Sync, Ack, Halt}
use Rattle.qh_core.specs.declared.moved.Moved.{Moved}
use Rattle.qh_core.specs.declared.moved.Moved.TheVariants.{Done, Repeat}
use Rattle.qh_core.specs.declared.slot_state.SlotState.{SlotState}
use Rattle.qh_core.specs.declared.slot_state.SlotState.TheVariants.{Closed, BodyWritten, BodySafe, GateWritten, Stored}
use Rattle.qh_core.specs.Machine.{State, slot_at, runs_for, is_out_by, is_closed, is_body_safe, is_stored, synced, with_lease, with_slot, when, step}
use Rattle.qh_core.specs.Machine.{answer_to, next}
use Rattle.qh_core.specs.Law.{is_done}
use Rattle.qh_core.specs.Noted.{storing}
use Rattle.qh_core.specs.Replay.{slot_for, are_done}

-- a machine that runs
abbrev pub running : List Lease → List SlotState → State
running leases slots = record { leases = leases; slots = slots; up = true; halted = false }

-- the machine that runs with these leases, between two entries
abbrev pub settled : List Lease → State
settled leases = running leases (map slot_for leases)

-- the events lead from one state to another, and each is answered Done
pub record Leads (s : State) (events : List Event) (t : State) : Type 0 where
  pub done : are_done s events ≡ true
  pub ends : fold next s events ≡ t

pub are_done-append : (xs ys : List Event) (s : State) → are_done s (xs ++ ys) ≡ (are_done s xs && are_done (fold next s xs) ys)
are_done-append [] ys s = refl
are_done-append (x ∷ xs) ys s =
    ap (λ b. is_done (answer_to s x) && b) (are_done-append xs ys (next s x))
    ∙ sym (and_assoc (is_done (answer_to s x)) (are_done (next s x) xs) (are_done (fold next (next s x) xs) ys))

pub leads_none : (s : State) → Leads s [] s
leads_none s = record { done = refl; ends = refl }

pub leads_on : {s t u : State} {xs ys : List Event} → Leads s xs t → Leads t ys u → Leads s (xs ++ ys) u
leads_on {s} {t} {u} {xs} {ys} first second = record {
  done = are_done-append xs ys s ∙ and_from _ _ first.done (subst (λ m. are_done m ys ≡ true) (sym first.ends) second.done);
  ends = fold-append next s xs ys ∙ (ap (λ m. fold next m ys) first.ends ∙ second.ends);
}

pub leads_to : {s t u : State} {xs : List Event} → Leads s xs t → t ≡ u → Leads s xs u
leads_to first is = record { done = first.done; ends = first.ends ∙ is }

pub leads_one : (s : State) (event : Event) (t : State) → step s event ≡ (Done, t) → Leads s (event ∷ []) t
leads_one s event t is = record {
  done = ap (λ (m : Moved × State). is_done m.0 && true) is;
  ends = ap (λ (m : Moved × State). m.1) is;
}

when_true : (legal : Bool) (old new : State) → legal ≡ true → when legal old new ≡ (Done, new)
when_true true old new h = refl
when_true false old new h = cc

body_true : (again legal : Bool) (old new : State) → again ≡ false → legal ≡ true → cond again (Repeat, old) (when legal old new) ≡ (Done, new)
body_true true legal old new h k = cc
body_true false legal old new h k = when_true legal old new k

within_runs : (leases : List Lease) (slots : List SlotState) (range : ℕ) → range < length leases → runs_for (running leases slots) range ≡ true
within_runs leases slots range within = lt-ltb range (length leases) within

grant_moves : (leases : List Lease) (slots : List SlotState) (range : ℕ) → range < length leases
    → may_grant (lease_at leases range) ≡ true
    → Leads (running leases slots) (Grant range ∷ []) (running (set leases range (Out (grants_of (lease_at leases range) + 1))) slots)
grant_moves leases slots range within may =
    let s = running leases slots in
    let lease = Out (grants_of (lease_at leases range) + 1) in
    leads_one s (Grant range) (with_lease s range lease)
    (when_true (runs_for s range && may_grant (lease_at leases range)) s (with_lease s range lease) (and_from _ _ (within_runs leases slots range within) may))

back_moves : (leases : List Lease) (slots : List SlotState) (range attempt : ℕ) → range < length leases
    → is_out_by attempt (lease_at leases range) ≡ true
    → Leads (running leases slots) (GiveBack range attempt ∷ []) (running (set leases range (Returned attempt)) slots)
back_moves leases slots range attempt within out =
    let s = running leases slots in
    leads_one s (GiveBack range attempt) (with_lease s range (Returned attempt))
    (when_true (runs_for s range && is_out_by attempt (lease_at leases range)) s (with_lease s range (Returned attempt))
    (and_from _ _ (within_runs leases slots range within) out))

sync_moves : (leases : List Lease) (slots slots' : List SlotState) → map synced slots ≡ slots'
    → Leads (running leases slots) (Sync ∷ []) (running leases slots')
sync_moves leases slots slots' is = leads_one (running leases slots) Sync (running leases slots') (ap (λ x. (Done, running leases x)) is)

body_moves : (leases : List Lease) (slots : List SlotState) (range : ℕ) → range < length leases → is_acked (lease_at leases range) ≡ false
    → slot_at slots range ≡ Closed → Leads (running leases slots) (Body range ∷ []) (running leases (set slots range BodyWritten))
body_moves leases slots range within waiting closed =
    let s = running leases slots in
    leads_one s (Body range) (with_slot s range BodyWritten) (
    body_true (runs_for s range && is_acked (lease_at leases range)) (runs_for s range && is_closed (slot_at slots range)) s (with_slot s range BodyWritten)
    (ap (λ b. runs_for s range && b) waiting ∙ ap (λ b. b && false) (within_runs leases slots range within))
    (and_from _ _ (within_runs leases slots range within) (ap is_closed closed))
    )

gate_moves : (leases : List Lease) (slots : List SlotState) (range : ℕ) → range < length leases → range < length slots
    → Leads (running leases (set slots range BodySafe)) (OpenGate range ∷ []) (running leases (set slots range GateWritten))
gate_moves leases slots range within slot_within =
    let s = running leases (set slots range BodySafe) in
    leads_one s (OpenGate range) (running leases (set slots range GateWritten)) (
    when_true (runs_for s range && is_body_safe (slot_at (set slots range BodySafe) range)) s (with_slot s range GateWritten)
    (and_from _ _ (within_runs leases (set slots range BodySafe) range within) (ap is_body_safe (get_or-set_same slots range BodySafe Closed slot_within)))
    ∙ ap (λ x. (Done, running leases x)) (set-set slots range BodySafe GateWritten)
    )

-- where no slot is half written, a range is stored, and nothing else changes
pub store_moves : (leases : List Lease) (slots : List SlotState) (range : ℕ) → range < length leases → range < length slots
    → is_acked (lease_at leases range) ≡ false → slot_at slots range ≡ Closed → map synced slots ≡ slots
    → Leads (running leases slots) (storing range) (running leases (set slots range Stored))
store_moves leases slots range within slot_within waiting closed still =
    leads_on (body_moves leases slots range within waiting closed) (
    leads_on (
    sync_moves leases (set slots range BodyWritten) (set slots range BodySafe)
    (map-set synced slots range BodyWritten ∙ ap (λ x. set x range BodySafe) still)
    ) (
    leads_on (gate_moves leases slots range within slot_within)
    (sync_moves leases (set slots range GateWritten) (set slots range Stored) (map-set synced slots range GateWritten ∙ ap (λ x. set x range Stored) still))
    )
    )

ack_moves : (leases : List Lease) (slots : List SlotState) (range : ℕ) → range < length leases → is_acked (lease_at leases range) ≡ false
    → slot_at slots range ≡ Stored → Leads (running leases slots) (Ack range ∷ []) (running (set leases range Acked) slots)
ack_moves leases slots range within waiting stored =
    let s = running leases slots in
    leads_one s (Ack range) (with_lease s range Acked) (
    when_true (runs_for s range && (is_stored (slot_at slots range) && not (is_acked (lease_at leases range)))) s (with_lease s range Acked)
    (and_from _ _ (within_runs leases slots range within) (and_from _ _ (ap is_stored stored) (ap not waiting)))
    )

synced_slot : (lease : Lease) → synced (slot_for lease) ≡ slot_for lease
synced_slot Fresh = refl
synced_slot (Out attempt) = refl
synced_slot (Returned attempt) = refl
synced_slot Acked = refl

-- between two entries no slot is half written
settled_is_still : (leases : List Lease) → map synced (map slot_for leases) ≡ map slot_for leases
settled_is_still [] = refl
settled_is_still (lease ∷ leases) = λ i. synced_slot lease i ∷ settled_is_still leases i

slot_of_open : (leases : List Lease) (range : ℕ) → is_acked (lease_at leases range) ≡ false → slot_at (map slot_for leases) range ≡ Closed
slot_of_open leases range waiting = get_or-map slot_for leases range Fresh ∙ ap (λ b. cond b Stored Closed) waiting

-- a lease that changes from open to open changes no slot
same_slots : (leases : List Lease) (range : ℕ) (lease : Lease) → is_acked (lease_at leases range) ≡ false → is_acked lease ≡ false
    → map slot_for leases ≡ map slot_for (set leases range lease)
same_slots leases range lease waiting new =
    sym (
    map-set slot_for leases range lease
    ∙ (ap (λ x. set (map slot_for leases) range x) (ap (λ b. cond b Stored Closed) new ∙ sym (slot_of_open leases range waiting))
    ∙ set-get_or (map slot_for leases) range Closed)
    )

pub can_grant_open : (lease : Lease) → may_grant lease ≡ true → is_acked lease ≡ false
can_grant_open Fresh h = refl
can_grant_open (Out attempt) h = refl
can_grant_open (Returned attempt) h = refl
can_grant_open Acked h = cc

pub granted_leads : (leases : List Lease) (range : ℕ) → range < length leases → may_grant (lease_at leases range) ≡ true
    → Leads (settled leases) (Grant range ∷ []) (settled (set leases range (Out (grants_of (lease_at leases range) + 1))))
granted_leads leases range within may =
    let lease = Out (grants_of (lease_at leases range) + 1) in
    leads_to (grant_moves leases (map slot_for leases) range within may)
    (ap (λ slots. running (set leases range lease) slots) (same_slots leases range lease (can_grant_open (lease_at leases range) may) refl))

pub back_leads : (leases : List Lease) (range attempt : ℕ) → range < length leases → lease_at leases range ≡ Out attempt
    → Leads (settled leases) (GiveBack range attempt ∷ []) (settled (set leases range (Returned attempt)))
back_leads leases range attempt within out =
    leads_to (back_moves leases (map slot_for leases) range attempt within (ap (is_out_by attempt) out ∙ eq-eqb attempt attempt refl))
    (ap (λ slots. running (set leases range (Returned attempt)) slots) (same_slots leases range (Returned attempt) (ap is_acked out) refl))

pub acked_leads : (leases : List Lease) (range : ℕ) → range < length leases → is_acked (lease_at leases range) ≡ false
    → Leads (settled leases) (storing range ++ Ack range ∷ []) (settled (set leases range Acked))
acked_leads leases range within waiting =
    let slots = map slot_for leases in
    let slot_within : range < length slots = subst (λ n. range < n) (sym (length-map leases slot_for)) within in
    leads_on (store_moves leases slots range within slot_within waiting (slot_of_open leases range waiting) (settled_is_still leases)) (
    leads_to (ack_moves leases (set slots range Stored) range within waiting (get_or-set_same slots range Stored Closed slot_within))
    (ap (λ x. running (set leases range Acked) x) (sym (map-set slot_for leases range Acked)))
    )

pub halted_leads : (leases : List Lease)
    → Leads (settled leases) (Halt ∷ []) (record { leases = leases; slots = map slot_for leases; up = true; halted = true })
halted_leads leases = leads_one (settled leases) Halt (record { leases = leases; slots = map slot_for leases; up = true; halted = true }) refl

-- a lease that is not Acked is open
pub waiting_is_open : (lease : Lease) → lease ≢ Acked → is_acked lease ≡ false
waiting_is_open Fresh h = refl
waiting_is_open (Out attempt) h = refl
waiting_is_open (Returned attempt) h = refl
waiting_is_open Acked h = absurd (h refl)
