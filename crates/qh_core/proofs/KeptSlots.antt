-- What a stop of the machine makes of the slots.
use Rattle.std.proofs.Common.{◌≡◌, ℕ, zero, suc, ◌<◌, Bool, true, List, [], ◌∷◌, ◌⊎◌, inl, inr, length, get_or, set, refl, sym, ap, ◌∙◌, subst, arith}
use Rattle.std.specs.Prelude.{fold, Contains, slice_set, slice_index_or}
use Rattle.std.specs.List.{list_all}
use Rattle.std.proofs.lemmas.Bool.{cases_eq, cases_lt, and_parts}
use Rattle.std.proofs.lemmas.List.{get_or-set_same, get_or-set_other, set_past, get_or_past, length-set}
use Rattle.std.proofs.lemmas.List.Elements.{Contains-append_right}
use Rattle.std.proofs.Math.ListN.{get_or-map}
use Rattle.qh_core.specs.declared.slot_state.SlotState.{SlotState}
use Rattle.qh_core.specs.declared.slot_state.SlotState.TheVariants.{Closed, BodyWritten, BodySafe, GateWritten, Stored}
use Rattle.qh_core.specs.Machine.{slot_at, is_gate_written, are_pending, survived, slots_after}

-- what holds of the new item where it was set, and of the old one, holds after a set
pub set_cases : {X : Type 0} (P : X → Type 0) (xs : List X) (i j : ℕ) (a d : X) → (j ≡ i → P a) → P (get_or xs j d) → P (get_or (set xs i a) j d)
set_cases P xs i j a d new old = elim (cases_eq j i) [
  | inl same ↦ elim (cases_lt i (length xs)) [
    | inl within ↦ subst (λ k. P (get_or (set xs i a) k d)) (sym same) (subst P (sym (get_or-set_same xs i a d within)) (new same))
    | inr past ↦ subst (λ ys. P (get_or ys j d)) (sym (set_past xs i a past)) old
  ]
  | inr other ↦ subst P (sym (get_or-set_other xs i j a d other)) old
]

-- the slots with each kept one stored
abbrev pub with_kept : List SlotState → List ℕ → List SlotState
with_kept slots kept = fold (λ those range. slice_set those range Stored) slots kept

pub length-with_kept : (kept : List ℕ) (slots : List SlotState) → length (with_kept slots kept) ≡ length slots
length-with_kept [] slots = refl
length-with_kept (k ∷ kept) slots = length-with_kept kept (set slots k Stored) ∙ length-set slots k Stored

-- a stored slot stays stored
pub with_kept_stays : (kept : List ℕ) (slots : List SlotState) (range : ℕ) → slot_at slots range ≡ Stored → slot_at (with_kept slots kept) range ≡ Stored
with_kept_stays [] slots range h = h
with_kept_stays (k ∷ kept) slots range h =
    with_kept_stays kept (set slots k Stored) range (set_cases (λ x. x ≡ Stored) slots k range Stored Closed (λ _. refl) h)

contains_at : (k : ℕ) (kept : List ℕ) (range i : ℕ) → i < length (k ∷ kept) → slice_index_or (k ∷ kept) i range ≡ range → (k ≡ range) ⊎ Contains kept range
contains_at k kept range zero within is = inl is
contains_at k kept range (suc i) within is = inr (i, omega arith, is)

-- the first, or in the rest
contains_cases : (k : ℕ) (kept : List ℕ) (range : ℕ) → Contains (k ∷ kept) range → (k ≡ range) ⊎ Contains kept range
contains_cases k kept range h = contains_at k kept range h.0 h.1 h.2

-- no other slot is stored than one that was, or is kept
pub with_kept_only : (kept : List ℕ) (slots : List SlotState) (range : ℕ) → slot_at (with_kept slots kept) range ≡ Stored → (slot_at slots range ≡ Stored) ⊎ Contains kept range
with_kept_only [] slots range h = inl h
with_kept_only (k ∷ kept) slots range h = elim (with_kept_only kept (set slots k Stored) range h) [
  | inl stored ↦ elim (cases_eq range k) [
    | inl same ↦ inr (zero, omega arith, sym same)
    | inr other ↦ inl (sym (get_or-set_other slots k range Stored Closed other) ∙ stored)
  ]
  | inr later ↦ inr (Contains-append_right (k ∷ []) kept range later)
]

-- a kept slot is stored
pub with_kept_stored : (kept : List ℕ) (slots : List SlotState) (range : ℕ) → range < length slots → Contains kept range → slot_at (with_kept slots kept) range ≡ Stored
with_kept_stored [] slots range within h = absurd (omega (arith, h.1))
with_kept_stored (k ∷ kept) slots range within h = elim (contains_cases k kept range h) [
  | inl same ↦ with_kept_stays kept (set slots k Stored) range (subst (λ r. slot_at (set slots r Stored) range ≡ Stored) (sym same) (get_or-set_same slots range Stored Closed within))
  | inr later ↦ with_kept_stored kept (set slots k Stored) range (omega (arith, length-set slots k Stored)) later
]

pub survived_only : (slot : SlotState) → survived slot ≡ Stored → slot ≡ Stored
survived_only Closed h = cc
survived_only BodyWritten h = cc
survived_only BodySafe h = cc
survived_only GateWritten h = cc
survived_only Stored h = refl

pub slot_at-slots_after : (kept : List ℕ) (slots : List SlotState) (range : ℕ) → slot_at (slots_after kept slots) range ≡ survived (slot_at (with_kept slots kept) range)
slot_at-slots_after kept slots range = get_or-map survived (with_kept slots kept) range Closed

pub slots_after_stays : (kept : List ℕ) (slots : List SlotState) (range : ℕ) → slot_at slots range ≡ Stored → slot_at (slots_after kept slots) range ≡ Stored
slots_after_stays kept slots range h = slot_at-slots_after kept slots range ∙ ap survived (with_kept_stays kept slots range h)

pub slots_after_only : (kept : List ℕ) (slots : List SlotState) (range : ℕ) → slot_at (slots_after kept slots) range ≡ Stored → (slot_at slots range ≡ Stored) ⊎ Contains kept range
slots_after_only kept slots range h =
    with_kept_only kept slots range (survived_only _ (sym (slot_at-slots_after kept slots range) ∙ h))

-- each of these passes the test, so one of them does
contained_passes : (test : ℕ → Bool) (kept : List ℕ) (range : ℕ) → list_all test kept ≡ true → Contains kept range → test range ≡ true
contained_passes test [] range all h = absurd (omega (arith, h.1))
contained_passes test (k ∷ kept) range all h = elim (contains_cases k kept range h) [
  | inl same ↦ subst (λ r. test r ≡ true) same (and_parts _ _ all).0
  | inr later ↦ contained_passes test kept range (and_parts _ _ all).1 later
]

gate_within : (slots : List SlotState) (range : ℕ) → is_gate_written (slot_at slots range) ≡ true → range < length slots
gate_within slots range h = elim (cases_lt range (length slots)) [
  | inl within ↦ within
  | inr past ↦ let e : is_gate_written Closed ≡ true = subst (λ x. is_gate_written x ≡ true) (get_or_past slots range Closed past) h in cc
]

pub slots_after_stored : (kept : List ℕ) (slots : List SlotState) (range : ℕ) → are_pending slots kept ≡ true → Contains kept range → slot_at (slots_after kept slots) range ≡ Stored
slots_after_stored kept slots range legal h =
    let within : range < length slots = gate_within slots range (contained_passes (λ r. is_gate_written (slot_at slots r)) kept range legal h) in
    slot_at-slots_after kept slots range ∙ ap survived (with_kept_stored kept slots range within h)
