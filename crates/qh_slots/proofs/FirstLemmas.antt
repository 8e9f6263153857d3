-- The total of the first slots of a table: what a pass over the table keeps, as it adds one verdict after the other.
use Rattle.std.proofs.Common.{◌≡◌, ℕ, zero, suc, ◌+◌, ◌<◌, ◌≤◌, inl, inr, length, map}
use Rattle.std.proofs.Common.{replicate, Option, Some, None, set, arith, add-one, refl, sym, ap, subst, ◌∙◌}
use Rattle.std.proofs.Math.Path.{ap₂}
use Rattle.std.specs.List.{range_with_len}
use Rattle.std.proofs.lemmas.List.{set-get_or, get_or-set_same, get_or-set_other, length-set, length-replicate}
use Rattle.std.proofs.lemmas.Bool.{cases_eq, cases_lt}
use Rattle.std.proofs.lemmas.Option.{none-some}
use Rattle.qh_ring.proofs.SumLemmas.{sum_below_same}
use Rattle.qh_plan.specs.declared.verdict.Verdict.{Verdict}
use Rattle.qh_plan.specs.Jobs.{Job, ranges}
use Rattle.qh_plan.specs.Slots.{slot_number, slot_sums, path_in, lesser, least_below, least_over}
use Rattle.qh_slots.specs.Stands.{Slots, slot_at, nones, AllFit}
use Rattle.qh_slots.specs.Running.{Running, IsTotalOf, IsNext}
use Rattle.qh_slots.proofs.RunningLemmas.{no_verdict}

-- ---- a total is of the slots below the number of ranges alone
least_same : (n : ℕ) (s others : Slots) → ((r : ℕ) → r < n → slot_at others r ≡ slot_at s r)
    → least_below (slot_at s) n ≡ least_below (slot_at others) n
least_same zero s others same = refl
least_same (suc n) s others same = ap₂ lesser (least_same n s others (λ r l. same r (omega arith))) (ap path_in (sym (same n (omega arith))))

pub total_same : (j : Job) (s others : Slots) (t : Running) → ((r : ℕ) → r < ranges j → slot_at others r ≡ slot_at s r)
    → IsTotalOf j s t → IsTotalOf j others t
unfolding slot_sums least_over
total_same j s others t same is = record {
  sums = is.sums ∙ ap (λ (f : ℕ → _). map f (range_with_len 0 (length j.bits)))
      (λ i. λ place. sum_below_same (ranges j) (λ r. slot_number (slot_at s r) place) (λ r. slot_number (slot_at others r) place)
      (λ r l. ap (λ (o : Option Verdict). slot_number o place) (sym (same r l))) i);
  over = is.over ∙ least_same (ranges j) s others same;
}

-- ---- the first n slots of a table, and none behind them
pub first_slots : ℕ → Slots → Slots
first_slots zero s = replicate (length s) None
first_slots (suc n) s = set (first_slots n s) n (slot_at s n)

length-first_slots : (n : ℕ) (s : Slots) → length (first_slots n s) ≡ length s
unfolding first_slots
length-first_slots zero s = length-replicate (length s) None
length-first_slots (suc n) s = length-set (first_slots n s) n (slot_at s n) ∙ length-first_slots n s

past_first : (n : ℕ) (s : Slots) (r : ℕ) → n ≤ r → slot_at (first_slots n s) r ≡ None
unfolding first_slots
past_first zero s r l = no_verdict (length s) r
past_first (suc n) s r l = get_or-set_other (first_slots n s) n r (slot_at s n) None (omega arith) ∙ past_first n s r (omega arith)

in_first : (n : ℕ) (s : Slots) (r : ℕ) → r < n → n ≤ length s → slot_at (first_slots n s) r ≡ slot_at s r
unfolding first_slots
in_first zero s r l m = absurd (omega arith)
in_first (suc n) s r l m = elim (cases_eq r n) [
  | inl same ↦
      ap (slot_at (set (first_slots n s) n (slot_at s n))) same
      ∙ get_or-set_same (first_slots n s) n (slot_at s n) None (let e = length-first_slots n s in omega arith)
      ∙ ap (slot_at s) (sym same)
  | inr other ↦ get_or-set_other (first_slots n s) n r (slot_at s n) None other ∙ in_first n s r (omega arith) (omega arith)
]

-- before the pass
pub first_none : (j : Job) (s : Slots) (t : Running) → length s ≡ ranges j → IsTotalOf j (nones j) t → IsTotalOf j (first_slots 0 s) t
unfolding first_slots
first_none j s t e is = subst (λ (n : ℕ). IsTotalOf j (replicate n None) t) (sym e) is

-- at a slot that has no verdict
pub first_empty : (j : Job) (s : Slots) (n : ℕ) (t : Running) → slot_at s n ≡ None
    → IsTotalOf j (first_slots n s) t → IsTotalOf j (first_slots (n + 1) s) t
unfolding first_slots
first_empty j s n t e is =
    let same : set (first_slots n s) n (slot_at s n) ≡ first_slots n s =
    ap (set (first_slots n s) n) (e ∙ sym (past_first n s n (omega arith))) ∙ set-get_or (first_slots n s) n None in
    rw (add-one n) (subst (λ (f : Slots). IsTotalOf j f t) (sym same) is)

-- at one that has: it is the next of the first, and then it is one of them
pub first_next : (j : Job) (s : Slots) (n : ℕ) (v : Verdict) → length s ≡ ranges j → AllFit j s → n < ranges j → slot_at s n ≡ Some v
    → IsNext j (first_slots n s) n v
first_next j s n v e fit l is = record {
  count = length-first_slots n s ∙ e;
  fit = record {
    each = λ r w held. elim (cases_lt r n) [
      | inl low ↦ fit.each r w (sym (in_first n s r low (omega arith)) ∙ held)
      | inr high ↦ absurd (none-some w (sym (past_first n s r high) ∙ held))
    ];
  };
  below = l;
  empty = past_first n s n (omega arith);
  fits = fit.each n v is;
}

pub first_more : (j : Job) (s : Slots) (n : ℕ) (v : Verdict) (t : Running) → slot_at s n ≡ Some v → IsTotalOf j (set (first_slots n s) n (Some v)) t
    → IsTotalOf j (first_slots (n + 1) s) t
unfolding first_slots
first_more j s n v t e is = rw (add-one n) (subst (λ (o : Option Verdict). IsTotalOf j (set (first_slots n s) n o) t) (sym e) is)

-- behind the pass
pub first_all : (j : Job) (s : Slots) (n : ℕ) (t : Running) → length s ≡ ranges j → n ≡ ranges j
    → IsTotalOf j (first_slots n s) t → IsTotalOf j s t
first_all j s n t e f is = total_same j (first_slots n s) s t (λ r l. sym (in_first n s r (omega arith) (omega arith))) is
