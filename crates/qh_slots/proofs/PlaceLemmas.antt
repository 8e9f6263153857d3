-- Slots lie apart, behind the head.
use Rattle.std.proofs.Common.{◌≡◌, ◌<◌, inl, inr, ℕ, ◌+◌, ◌-◌, ◌*◌, ◌≤◌, true, false, List, length, take, drop, get_or, Some, refl, ap, subst, ◌∙◌, arith}
use Rattle.std.proofs.lemmas.Bool.{cases_Bool, eq-eqb}
use Rattle.std.proofs.lemmas.List.{places, ext_get_or, get_or-take, get_or-drop, drop-drop}
use Rattle.std.proofs.lemmas.Slice.{between_to_end}
use Rattle.std.proofs.Math.Nat.{mul-le-mul_right}
use Rattle.qh_plan.specs.declared.verdict.Verdict.{Verdict}
use Rattle.qh_plan.specs.Jobs.{Job, ranges}
use Rattle.qh_plan.specs.Plans.{IsPlanned}
use Rattle.qh_plan.specs.Texts.{journal_length}
use Rattle.qh_plan.specs.Ranges.{Fits}
use Rattle.qh_slots.specs.Layout.{mark, head, old_head, place, slot_size, body, is_open}
use Rattle.qh_slots.specs.Slots.{SlotIs, slot_of, spelled, verdict_of}
use Rattle.qh_slots.specs.Attaching.{is_good}
use Rattle.qh_slots.proofs.StandLemmas.{head_size, old_head_size}
use Rattle.qh_slots.proofs.SpellingLemmas.{good_is}

-- ---- where slots lie
pub place_start : (h : List ℕ) (j : Job) (r : ℕ) → length h ≤ place h j r
unfolding place
place_start h j r = omega arith

pub place_next : (h : List ℕ) (j : Job) (r : ℕ) → place h j (r + 1) ≡ place h j r + slot_size j
unfolding place
place_next h j r = grind arith

pub apart : (h : List ℕ) (j : Job) (q r : ℕ) → q < r → place h j q + slot_size j ≤ place h j r
unfolding place
apart h j q r lt = let le : (q + 1) * slot_size j ≤ r * slot_size j = mul-le-mul_right (slot_size j) (omega arith) in grind arith

-- the length of a journal
pub whole_small : (j : Job) → IsPlanned j → place (head j) j (ranges j) ≤ 1073741824
unfolding place journal_length
whole_small j planned = let s = head_size j in let p = planned.short in omega arith

pub old_small : (j : Job) → IsPlanned j → place (old_head j) j (ranges j) ≤ 1073741824
unfolding place journal_length
old_small j planned = let s = old_head_size j in let p = planned.short in omega arith

-- ---- what is read of a slot
drop_take : (i j : ℕ) (s : List ℕ) → drop i (take j s) ≡ take (j - i) (drop i s)
drop_take i j s = ext_get_or 0 (drop i (take j s)) (take (j - i) (drop i s)) (grind (arith, places)) (λ k low. grind (arith, places))

pub record IsRead (h : List ℕ) (j : Job) (r : ℕ) (f buf : List ℕ) : Type 0 where
  pub gate : get_or buf 0 0 ≡ get_or f (place h j r) 0
  pub rest : take (length buf - 1) (drop 1 buf) ≡ body h j r f

pub slot_read : (h : List ℕ) (j : Job) (r n : ℕ) (f buf : List ℕ) → n ≡ slot_size j → length buf ≡ n → buf ≡ take n (drop (place h j r) f) → IsRead h j r f buf
slot_read h j r n f buf is size read = record {
  gate = ap (λ (l : List ℕ). get_or l 0 0) read ∙ get_or-take n (drop (place h j r) f) 0 0 (omega arith) ∙ get_or-drop (place h j r) f 0 0 ∙ ap (λ (i : ℕ). get_or f i 0) (omega arith);
  rest = between_to_end buf 1 (length buf) (omega arith) ∙ ap (drop 1) read ∙ drop_take 1 n (drop (place h j r) f)
      ∙ ap (λ (l : List ℕ). take (n - 1) l) (drop-drop 1 (place h j r) f) ∙ ap (λ (m : ℕ). take m (drop (place h j r + 1) f)) (omega arith);
}

-- an open slot that spells no verdict that fits is no slot
pub bad_slot : (h : List ℕ) (j : Job) (r : ℕ) (f : List ℕ) → get_or f (place h j r) 0 ≡ mark → ((v : Verdict) → body h j r f ≡ spelled j v → Fits j r v → ⊥) → is_good h j f r ≡ false
bad_slot h j r f open_gate none = elim (cases_Bool (is_good h j f r)) [
  | inl good ↦ absurd (let s = subst (SlotIs h j r f) (opened (eq-eqb (get_or f (place h j r) 0) mark open_gate)) (good_is h j r f good) in none (verdict_of j (body h j r f)) s.1 s.2)
  | inr bad ↦ bad
]
  where
    opened : is_open h j r f ≡ true → slot_of h j r f ≡ Some (verdict_of j (body h j r f))
    opened e = rw e refl
