-- Slots that are laid one after the other.
use Rattle.std.proofs.Common.{◌≡◌, ◌<◌, inl, inr, ℕ, zero, suc, ◌+◌, ◌-◌, ◌≤◌, List, [], ◌∷◌, ◌++◌, length, take, replicate, set, get_or, Option, Some, None, refl, sym, ap, subst, ◌∙◌, arith}
use Rattle.std.proofs.lemmas.Bool.{cases_order, cases_lt}
use Rattle.std.proofs.lemmas.List.{ext_get_or, get_or_append_left, get_or-append_right, get_or_past, get_or-take, get_or-replicate, get_or-set_same, get_or-set_other, length-append, length-replicate, length-set, length-take-le, take_all, take_more, append-nil}
use Rattle.qh_plan.specs.declared.verdict.Verdict.{Verdict}
use Rattle.qh_slots.specs.Stands.{Slots}
use Rattle.qh_migrate.specs.Laid.{put, front_of}
use Rattle.qh_migrate.specs.Moving.{count_open}

pub front_zero : (table : Slots) (n : ℕ) → length table ≡ n → front_of 0 table ≡ replicate n None
front_zero table n is = ap (λ (k : ℕ). replicate {A = Option Verdict} k None) (let e : length table - 0 ≡ n = omega arith in e)

pub front_length : (r : ℕ) (table : Slots) → r ≤ length table → length (front_of r table) ≡ length table
front_length r table le =
    let a = length-append (take r table) (replicate (length table - r) None) in
    let b = length-take-le r table le in
    let c = length-replicate {A = Option Verdict} (length table - r) None in
    omega arith

pub front_all : (r : ℕ) (table : Slots) → r ≡ length table → front_of r table ≡ table
front_all r table is =
    ap (λ (k : ℕ). take r table ++ replicate k None) (let e : length table - r ≡ 0 = omega arith in e) ∙ append-nil (take r table) ∙ take_all r table (omega arith)

-- what stands at each place
front_below : (r : ℕ) (table : Slots) (i : ℕ) → r ≤ length table → i < r → get_or (front_of r table) i None ≡ get_or table i None
front_below r table i le low =
    let n = length-take-le r table le in
    get_or_append_left (take r table) (replicate (length table - r) None) None i (omega arith) ∙ get_or-take r table i None low

closed_at : (n k : ℕ) → get_or {A = Option Verdict} (replicate n None) k None ≡ None
closed_at n k = elim (cases_lt k n) [
  | inl low ↦ get_or-replicate n k None None low
  | inr high ↦ get_or_past (replicate {A = Option Verdict} n None) k None (let c = length-replicate {A = Option Verdict} n None in omega arith)
]

front_behind : (r : ℕ) (table : Slots) (i : ℕ) → r ≤ length table → r ≤ i → get_or (front_of r table) i None ≡ None
front_behind r table i le past =
    let n = length-take-le r table le in
    get_or-append_right (take r table) (replicate {A = Option Verdict} (length table - r) None) (length (take r table)) i None refl (omega arith) ∙ closed_at (length table - r) (i - length (take r table))

put_same : (s : Slots) (r : ℕ) (o : Option Verdict) → r < length s → get_or s r None ≡ None → get_or (put s r o) r None ≡ o
put_same s r None low shut = shut
put_same s r (Some v) low shut = get_or-set_same s r (Some v) None low

put_other : (s : Slots) (r i : ℕ) (o : Option Verdict) → (i ≡ r → ⊥) → get_or (put s r o) i None ≡ get_or s i None
put_other s r i None ne = refl
put_other s r i (Some v) ne = get_or-set_other s r i (Some v) None ne

put_length : (s : Slots) (r : ℕ) (o : Option Verdict) → length (put s r o) ≡ length s
put_length s r None = refl
put_length s r (Some v) = length-set s r (Some v)

-- one slot more
pub front_more : (r : ℕ) (table : Slots) (o : Option Verdict) → r < length table → o ≡ get_or table r None → put (front_of r table) r o ≡ front_of (r + 1) table
front_more r table o low is =
    let n = front_length r table (omega arith) in
    let m = front_length (r + 1) table (omega arith) in
    let l = put_length (front_of r table) r o in
    ext_get_or None (put (front_of r table) r o) (front_of (r + 1) table) (omega arith) (λ i here. elim (cases_order i r) [
      | inl same ↦ subst (λ (k : ℕ). get_or (put (front_of r table) r o) k None ≡ get_or (front_of (r + 1) table) k None) (sym same)
          (put_same (front_of r table) r o (omega arith) (front_behind r table r (omega arith) (omega arith)) ∙ is ∙ sym (front_below (r + 1) table r (omega arith) (omega arith)))
      | inr (inl below) ↦ put_other (front_of r table) r i o (λ e. omega arith) ∙ front_below r table i (omega arith) below ∙ sym (front_below (r + 1) table i (omega arith) (omega arith))
      | inr (inr above) ↦ put_other (front_of r table) r i o (λ e. omega arith) ∙ front_behind r table i (omega arith) (omega arith) ∙ sym (front_behind (r + 1) table i (omega arith) (omega arith))
    ])

-- ---- how many are open
count_append : (s : Slots) (o : Option Verdict) → count_open (s ++ o ∷ []) ≡ count_open s + count_open (o ∷ [])
count_append [] None = refl
count_append [] (Some v) = refl
count_append (None ∷ s) o = count_append s o
count_append (Some v ∷ s) o = ap suc (count_append s o) ∙ (let e : suc (count_open s + count_open (o ∷ [])) ≡ suc (count_open s) + count_open (o ∷ []) = omega arith in e)

pub count_more : (r : ℕ) (table : Slots) (o : Option Verdict) → r < length table → o ≡ get_or table r None → count_open (take (r + 1) table) ≡ count_open (take r table) + count_open (o ∷ [])
count_more r table o low is =
    ap count_open (take_more table r None low) ∙ count_append (take r table) (get_or table r None) ∙ ap (λ (x : Option Verdict). count_open (take r table) + count_open (x ∷ [])) (sym is)

pub count_most : (s : Slots) → count_open s ≤ length s
count_most [] = omega arith
count_most (None ∷ s) = let m = count_most s in omega arith
count_most (Some v ∷ s) = let m = count_most s in omega arith

pub count_one : (o : Option Verdict) → count_open (o ∷ []) ≤ 1
count_one None = omega arith
count_one (Some v) = omega arith
