-- The start of a run: the ranges that were stored before, and then Reopen.
use Rattle.std.proofs.Common.{◌≡◌, ℕ, zero, suc, ◌<◌, ◌≤◌, Bool, true, false, ◌||◌, cond, List, [], ◌∷◌, inl, inr, length, map, replicate, get_or}
use Rattle.std.proofs.Common.{set, refl, sym, ap, ◌∙◌, subst, arith}
use Rattle.std.specs.Prelude.{fold}
use Rattle.std.proofs.lemmas.Bool.{cases_eq}
use Rattle.std.proofs.lemmas.List.{get_or-set_same, get_or-set_other, map-set, length-map, length-set, length-replicate, ext_get_or}
use Rattle.std.proofs.lemmas.List.Sums.{fold-append}
use Rattle.std.proofs.Math.ListN.{get_or-map}
use Rattle.qh_lease.specs.declared.lease.Lease.{Lease}
use Rattle.qh_lease.specs.declared.lease.Lease.TheVariants.{Fresh, Out, Returned, Acked}
use Rattle.qh_lease.specs.Lease.{lease_at, is_fresh, is_acked}
use Rattle.qh_lease.proofs.Lowest.{map-replicate}
use Rattle.qh_core.specs.declared.event.Event.{Event}
use Rattle.qh_core.specs.declared.event.Event.TheVariants.{Reopen}
use Rattle.qh_core.specs.declared.moved.Moved.TheVariants.{Done}
use Rattle.qh_core.specs.declared.slot_state.SlotState.{SlotState}
use Rattle.qh_core.specs.declared.slot_state.SlotState.TheVariants.{Closed, BodyWritten, BodySafe, GateWritten, Stored}
use Rattle.qh_core.specs.Machine.{State, lease_of, slot_at, start, after, synced, survived, found_lease, next}
use Rattle.qh_core.specs.Noted.{storing}
use Rattle.qh_core.specs.Replay.{slot_for, stored_below, opening}
use Rattle.qh_core.proofs.MoveLemmas.{running, settled, Leads, leads_none, leads_on, leads_to, leads_one, store_moves}

-- the slots after the begun ranges below a number were stored
abbrev pub marked : ℕ → (ℕ → Bool) → ℕ → List SlotState
marked ranges begun zero = replicate ranges Closed
marked ranges begun (suc range) = cond (begun range) (set (marked ranges begun range) range Stored) (marked ranges begun range)

-- what holds of both choices holds of the choice
either : {X : Type 0} (P : X → Type 0) (b : Bool) (x y : X) → P x → P y → P (cond b x y)
either P true x y p q = p
either P false x y p q = q

-- an item of equal ones, also past the end
pub at_replicate : {X : Type 0} (n k : ℕ) (a : X) → get_or (replicate n a) k a ≡ a
at_replicate zero k a = refl
at_replicate (suc n) zero a = refl
at_replicate (suc n) (suc k) a = at_replicate n k a

length-marked : (ranges : ℕ) (begun : ℕ → Bool) (n : ℕ) → length (marked ranges begun n) ≡ ranges
length-marked ranges begun zero = length-replicate ranges Closed
length-marked ranges begun (suc n) =
    let before = length-marked ranges begun n in
    either (λ slots. length slots ≡ ranges) (begun n) (set (marked ranges begun n) n Stored) (marked ranges begun n)
    (length-set (marked ranges begun n) n Stored ∙ before) before

marked_is_still : (ranges : ℕ) (begun : ℕ → Bool) (n : ℕ) → map synced (marked ranges begun n) ≡ marked ranges begun n
marked_is_still ranges begun zero = map-replicate synced ranges Closed
marked_is_still ranges begun (suc n) =
    let before = marked_is_still ranges begun n in
    either (λ slots. map synced slots ≡ slots) (begun n) (set (marked ranges begun n) n Stored) (marked ranges begun n)
    (map-set synced (marked ranges begun n) n Stored ∙ ap (λ slots. set slots n Stored) before) before

-- the slots from there on are closed
marked_above : (ranges : ℕ) (begun : ℕ → Bool) (n k : ℕ) → n ≤ k → slot_at (marked ranges begun n) k ≡ Closed
marked_above ranges begun zero k h = at_replicate ranges k Closed
marked_above ranges begun (suc n) k h =
    let before = marked_above ranges begun n k (omega arith) in
    either (λ slots. slot_at slots k ≡ Closed) (begun n) (set (marked ranges begun n) n Stored) (marked ranges begun n)
    (get_or-set_other (marked ranges begun n) n k Stored Closed (λ same. omega arith) ∙ before) before

-- a range that is next is stored where it was begun
marked_here : (slots : List SlotState) (n : ℕ) (b : Bool) → n < length slots → slot_at slots n ≡ Closed
    → slot_at (cond b (set slots n Stored) slots) n ≡ cond b Stored Closed
marked_here slots n true within closed = get_or-set_same slots n Stored Closed within
marked_here slots n false within closed = closed

-- the slots of the begun ranges below are stored, the others closed
marked_below : (ranges : ℕ) (begun : ℕ → Bool) (n k : ℕ) → n ≤ ranges → k < n → slot_at (marked ranges begun n) k ≡ cond (begun k) Stored Closed
marked_below ranges begun zero k within below = absurd (omega arith)
marked_below ranges begun (suc n) k within below = elim (cases_eq k n) [
  | inl same ↦
      let length_is = length-marked ranges begun n in
      subst (λ q. slot_at (marked ranges begun (suc n)) q ≡ cond (begun q) Stored Closed) (sym same)
      (marked_here (marked ranges begun n) n (begun n) (omega arith) (marked_above ranges begun n n (omega arith)))
  | inr other ↦
      let before = marked_below ranges begun n k (omega arith) (omega arith) in
      either (λ slots. slot_at slots k ≡ cond (begun k) Stored Closed) (begun n) (set (marked ranges begun n) n Stored) (marked ranges begun n)
      (get_or-set_other (marked ranges begun n) n k Stored Closed other ∙ before) before
]

maybe_leads : (b : Bool) (leases : List Lease) (slots slots' : List SlotState) (events : List Event)
    → Leads (running leases slots) events (running leases slots')
    → Leads (running leases slots) (cond b events []) (running leases (cond b slots' slots))
maybe_leads true leases slots slots' events h = h
maybe_leads false leases slots slots' events h = leads_none (running leases slots)

stored_leads : (ranges : ℕ) (begun : ℕ → Bool) (n : ℕ) → n ≤ ranges
    → Leads (start ranges) (stored_below begun n) (running (replicate ranges Fresh) (marked ranges begun n))
stored_leads ranges begun zero within = leads_none (start ranges)
stored_leads ranges begun (suc n) within =
    let leases = replicate ranges Fresh in
    let slots = marked ranges begun n in
    let leases_are : length leases ≡ ranges = length-replicate ranges Fresh in
    let slots_are : length slots ≡ ranges = length-marked ranges begun n in
    leads_on (stored_leads ranges begun n (omega arith)) (
    maybe_leads (begun n) leases slots (set slots n Stored) (storing n) (
    store_moves leases slots n (omega arith) (omega arith) (ap is_acked (at_replicate ranges n Fresh)) (marked_above ranges begun n n (omega arith))
    (marked_is_still ranges begun n)
    )
    )

reopen_leads : (leases : List Lease) (slots : List SlotState) → map survived slots ≡ slots
    → Leads (running leases slots) (Reopen [] ∷ []) (running (map found_lease slots) slots)
reopen_leads leases slots is =
    leads_one (running leases slots) (Reopen []) (running (map found_lease slots) slots) (ap (λ x. (Done, running (map found_lease x) x)) is)

survived_slot : (lease : Lease) → survived (slot_for lease) ≡ slot_for lease
survived_slot Fresh = refl
survived_slot (Out attempt) = refl
survived_slot (Returned attempt) = refl
survived_slot Acked = refl

settled_survives : (leases : List Lease) → map survived (map slot_for leases) ≡ map slot_for leases
settled_survives [] = refl
settled_survives (lease ∷ leases) = λ i. survived_slot lease i ∷ settled_survives leases i

-- a run finds its ranges fresh or acknowledged
abbrev pub is_found : Lease → Bool
is_found lease = is_fresh lease || is_acked lease

found_slot : (lease : Lease) → is_found lease ≡ true → found_lease (slot_for lease) ≡ lease
found_slot Fresh h = refl
found_slot (Out attempt) h = cc
found_slot (Returned attempt) h = cc
found_slot Acked h = refl

found_back : (leases : List Lease) → ((range : ℕ) → is_found (lease_at leases range) ≡ true) → map found_lease (map slot_for leases) ≡ leases
found_back [] h = refl
found_back (lease ∷ leases) h = λ i. found_slot lease (h zero) i ∷ found_back leases (λ k. h (suc k)) i

-- the begun ranges have the slots of the acknowledged leases
marked_is : (leases : List Lease) → marked (length leases) (λ r. is_acked (lease_at leases r)) (length leases) ≡ map slot_for leases
marked_is leases =
    let begun : ℕ → Bool = λ r. is_acked (lease_at leases r) in
    let length_is : length (marked (length leases) begun (length leases)) ≡ length leases = length-marked (length leases) begun (length leases) in
    ext_get_or Closed _ _ (length_is ∙ sym (length-map leases slot_for))
    (λ k below. marked_below (length leases) begun (length leases) k (omega arith) (omega arith) ∙ sym (get_or-map slot_for leases k Fresh))

-- the start of a run whose begun ranges are the acknowledged ones, the others being fresh
pub opening_leads : (leases : List Lease) → ((range : ℕ) → is_found (lease_at leases range) ≡ true)
    → Leads (start (length leases)) (opening (length leases) (λ r. is_acked (lease_at leases r))) (settled leases)
opening_leads leases found =
    leads_on (stored_leads (length leases) (λ r. is_acked (lease_at leases r)) (length leases) (omega arith)) (
    subst (λ slots. Leads (running (replicate (length leases) Fresh) slots) (Reopen [] ∷ []) (settled leases)) (sym (marked_is leases)) (
    leads_to (reopen_leads (replicate (length leases) Fresh) (map slot_for leases) (settled_survives leases))
    (ap (λ x. running x (map slot_for leases)) (found_back leases found))
    )
    )

found_is_found : (slot : SlotState) → is_found (found_lease slot) ≡ true
found_is_found Closed = refl
found_is_found BodyWritten = refl
found_is_found BodySafe = refl
found_is_found GateWritten = refl
found_is_found Stored = refl

reopened_is_found : (s : State) (range : ℕ) → is_found (lease_of (next s (Reopen [])) range) ≡ true
reopened_is_found s range = ap is_found (get_or-map found_lease (map survived s.slots) range Closed) ∙ found_is_found (slot_at (map survived s.slots) range)

-- after the start of a run each range is fresh or acknowledged
pub opened_is_found : (ranges : ℕ) (begun : ℕ → Bool) (range : ℕ) → is_found (lease_of (after ranges (opening ranges begun)) range) ≡ true
opened_is_found ranges begun range =
    ap (λ s. is_found (lease_of s range)) (fold-append next (start ranges) (stored_below begun ranges) (Reopen [] ∷ []))
    ∙ reopened_is_found (fold next (start ranges) (stored_below begun ranges)) range
