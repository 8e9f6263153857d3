-- How many leases are fresh, and how many slots are bare.
use Rattle.std.proofs.Common.{◌≡◌, ℕ, zero, suc, ◌+◌, ◌<◌, ◌≤◌, Bool, true, false, cond, inl, inr, get_or-set_same, get_or-set_other, List, [], ◌∷◌, length, map, set, Option, Some, None, refl, arith, sym, ap, subst, ◌∙◌, get_or}
use Rattle.std.specs.Prelude.{is_none}
use Rattle.std.specs.List.{count_by, range_with_len}
use Rattle.std.proofs.Math.Path.{ap₂}
use Rattle.std.proofs.lemmas.Bool.{cases_eq, cases_lt}
use Rattle.std.proofs.lemmas.List.{length-set}
use Rattle.std.proofs.lemmas.List.Sums.{sum_by-cons, sum_by-set}
use Rattle.qh_plan.specs.declared.verdict.Verdict.{Verdict}
use Rattle.qh_plan.specs.Jobs.{Job, ranges}
use Rattle.qh_slots.specs.Stands.{Slots, slot_at, nones}
use Rattle.qh_parts.proofs.LayLemmas.{none_at}
use Rattle.qh_slots.specs.Record.{count_bare}
use Rattle.qh_lease.specs.declared.lease.Lease.{Lease}
use Rattle.qh_lease.specs.declared.lease.Lease.TheVariants.{Fresh, Out, Acked}
use Rattle.qh_lease.specs.Lease.{lease_at, is_fresh, NonePasses, IsLowest}
use Rattle.qh_core.specs.Replay.{is_open}
use Rattle.qh_board.specs.Board.{lease_for}

count_cons : {X : Type 0} (p : X → Bool) (x : X) (xs : List X) → count_by p (x ∷ xs) ≡ cond (p x) 1 0 + count_by p xs
count_cons p x xs = sum_by-cons (λ y. cond (p y) 1 0) x xs

-- none is counted where none passes
count_none : (p : Lease → Bool) (xs : List Lease) → ((k : ℕ) → k < length xs → p (lease_at xs k) ≡ false) → count_by p xs ≡ 0
count_none p [] none = refl
count_none p (x ∷ xs) none =
    let here : p x ≡ false = none 0 (omega arith) in
    let rest : count_by p xs ≡ 0 = count_none p xs (λ k below. none (suc k) (omega arith)) in
    count_cons p x xs ∙ ap₂ (λ b n. cond b 1 0 + n) here rest

pub none_counted : (p : Lease → Bool) (xs : List Lease) → NonePasses p 0 xs → count_by p xs ≡ 0
none_counted p xs none = count_none p xs (λ k below. none k (omega arith) below)

-- a change of one that is not counted to one that is not counted
pub count_kept : (p : Lease → Bool) (xs : List Lease) (r : ℕ) (y : Lease) → r < length xs → p (lease_at xs r) ≡ false → p y ≡ false → count_by p (set xs r y) ≡ count_by p xs
count_kept p xs r y below was is =
    by _ _ _ _ (ap (λ b. cond b 1 0) was) (ap (λ b. cond b 1 0) is) (sum_by-set (λ x. cond (p x) 1 0) xs r y Fresh below)
  where
    by : (m n a b : ℕ) → a ≡ 0 → b ≡ 0 → m + a ≡ n + b → m ≡ n
    by m n a b u v e = omega arith

-- and of any one: at most one less is counted
pub count_less : (p : Lease → Bool) (xs : List Lease) (r : ℕ) (y : Lease) → r < length xs → count_by p xs ≤ count_by p (set xs r y) + 1
count_less p xs r y below = by _ _ _ _ (at_most (p (lease_at xs r))) (sum_by-set (λ x. cond (p x) 1 0) xs r y Fresh below)
  where
    at_most : (b : Bool) → cond b 1 0 ≤ 1
    at_most true = omega arith
    at_most false = omega arith

    by : (m n a b : ℕ) → a ≤ 1 → m + a ≡ n + b → n ≤ m + 1
    by m n a b less e = omega arith

-- the leases with which a run finds its slots: the ranges that are fresh are those whose slots are bare
bare_from : (f : ℕ → Option Verdict) (s : Slots) (a : ℕ) → ((i : ℕ) → i < length s → f (a + i) ≡ slot_at s i)
    → count_by (λ r. is_none (f r)) (range_with_len a (length s)) ≡ count_by is_fresh (map lease_for s)
bare_from f [] a same = refl
bare_from f (o ∷ s) a same =
    let here : is_none (f a) ≡ is_fresh (lease_for o) = ap is_none (subst (λ n. f n ≡ o) (omega arith) (same 0 (omega arith))) ∙ by o in
    let rest = bare_from f s (a + 1) (λ i below. subst (λ n. f n ≡ slot_at s i) (omega arith) (same (suc i) (omega arith))) in
    count_cons (λ r. is_none (f r)) a (range_with_len (a + 1) (length s)) ∙ ap₂ (λ b n. cond b 1 0 + n) here rest ∙ sym (count_cons is_fresh (lease_for o) (map lease_for s))
  where
    by : (o : Option Verdict) → is_none o ≡ is_fresh (lease_for o)
    by None = refl
    by (Some v) = refl

pub bare_fresh : (j : Job) (s : Slots) → length s ≡ ranges j → count_bare j s ≡ count_by is_fresh (map lease_for s)
bare_fresh j s count =
    ap (λ n. count_by (λ r. is_none (slot_at s r)) (range_with_len 0 n)) (sym count) ∙ bare_from (slot_at s) s 0 (λ i below. ap (slot_at s) (omega arith))

-- the ranges below the next place of a sweep are acknowledged
pub swept_more : (leases : List Lease) (from range : ℕ) → ((r : ℕ) → r < from → is_open (lease_at leases r) ≡ false) → IsLowest is_open from leases range
    → (r : ℕ) → r < range + 1 → is_open (lease_at (set leases range Acked) r) ≡ false
swept_more leases from range before lowest r below = elim (cases_eq r range) [
  | inl same ↦ ap is_open (ap (lease_at (set leases range Acked)) same ∙ get_or-set_same leases range Acked Fresh lowest.within)
  | inr other ↦ ap is_open (get_or-set_other leases range r Acked Fresh other) ∙ elim (cases_lt r from) [
    | inl early ↦ before r early
    | inr late ↦ lowest.lowest r late (omega arith)
  ]
]

pub swept_all : (leases : List Lease) (from : ℕ) → ((r : ℕ) → r < from → is_open (lease_at leases r) ≡ false) → NonePasses is_open from leases → NonePasses is_open 0 leases
swept_all leases from before none r low below = elim (cases_lt r from) [
  | inl early ↦ before r early
  | inr late ↦ none r late below
]

-- a range that is granted and then acknowledged: at most one range less is fresh
pub fresh_turn : (leases mid new : List Lease) (r attempt : ℕ) → r < length leases → mid ≡ set leases r (Out attempt) → new ≡ set mid r Acked
    → count_by is_fresh leases ≤ count_by is_fresh new + 1
fresh_turn leases mid new r attempt below granted acked =
    let less = count_less is_fresh leases r (Out attempt) below in
    let out : lease_at mid r ≡ Out attempt = ap (λ (l : List Lease). lease_at l r) granted ∙ get_or-set_same leases r (Out attempt) Fresh below in
    let inside : r < length mid = subst (λ n. r < n) (sym (ap (length {A = Lease}) granted ∙ length-set leases r (Out attempt))) below in
    let same : count_by is_fresh new ≡ count_by is_fresh (set leases r (Out attempt)) =
    ap (count_by is_fresh) acked ∙ count_kept is_fresh mid r Acked inside (ap is_fresh out) refl ∙ ap (count_by is_fresh) granted in
    by _ _ _ less same
  where
    by : (m n k : ℕ) → m ≤ n + 1 → k ≡ n → m ≤ k + 1
    by m n k less same = omega arith

-- where there is no slot, each range is bare
count_all : (p : ℕ → Bool) (a n : ℕ) → ((r : ℕ) → p r ≡ true) → count_by p (range_with_len a n) ≡ n
count_all p a zero all = refl
count_all p a (suc n) all = count_cons p a (range_with_len (a + 1) n) ∙ ap₂ (λ b m. cond b 1 0 + m) (all a) (count_all p (a + 1) n all) ∙ one_more n
  where
    one_more : (n : ℕ) → 1 + n ≡ suc n
    one_more n = omega arith

pub bare_nones : (j : Job) → count_bare j (nones j) ≡ ranges j
bare_nones j = count_all (λ r. is_none (slot_at (nones j) r)) 0 (ranges j) (λ r. ap is_none (none_at j r))
