-- The running total: of no verdicts, and of one more.
use Rattle.std.proofs.Common.{◌≡◌, ◌≢◌, ℕ, zero, suc, ◌<◌, inl, inr, List, length, replicate, ◌++◌}
use Rattle.std.proofs.Common.{take, drop, Option, Some, None, set, arith, refl, sym, ap, subst, ◌∙◌, All}
use Rattle.std.proofs.Math.Path.{ap₂}
use Rattle.std.proofs.lemmas.List.{get_or-set_same, get_or-set_other, length-set, length-replicate, take_at}
use Rattle.std.proofs.lemmas.List.FromFn.{fill_by_all, length-map-range_with_len}
use Rattle.std.proofs.lemmas.Bool.{cases_eq}
use Rattle.qh_ring.specs.declared.number.Omega.{Omega}
use Rattle.qh_ring.specs.Numbers.{sum, nothing, IsWithin}
use Rattle.qh_ring.specs.States.{at_index}
use Rattle.qh_ring.proofs.SumLemmas.{sum_nothing}
use Rattle.qh_plan.specs.declared.verdict.Verdict.{Verdict}
use Rattle.qh_plan.specs.declared.verdict.Verdict.TheVariants.{Sum}
use Rattle.qh_plan.specs.Jobs.{Job, IsJob, ranges}
use Rattle.qh_plan.specs.Ranges.{Fits}
use Rattle.qh_plan.specs.Verdicts.{added}
use Rattle.qh_plan.specs.Slots.{slot_number, sum_of_slots, slot_sums, path_in, lesser, least_below}
use Rattle.qh_plan.specs.Slots.{least_over, over_or, added_verdict, AreFit, AreFullBelow, IsFilled, AreMore}
use Rattle.qh_plan.proofs.SlotLemmas.{parted, bounded, one_more}
use Rattle.qh_slots.specs.Stands.{Slots, slot_at, nones, AllFit}
use Rattle.qh_slots.specs.Running.{Running, IsTotalOf, IsNext, IsWholeTotal}

-- ---- no verdicts
pub no_verdict : (n r : ℕ) → slot_at (replicate n None) r ≡ None
no_verdict zero r = refl
no_verdict (suc n) zero = refl
no_verdict (suc n) (suc r) = no_verdict n r

no_sum : (m n place : ℕ) → sum_of_slots (slot_at (replicate m None)) n place ≡ nothing
no_sum m zero place = refl
no_sum m (suc n) place = ap₂ sum (no_sum m n place) (ap (λ o. slot_number o place) (no_verdict m n)) ∙ sum_nothing nothing

no_least : (m n : ℕ) → least_below (slot_at (replicate m None)) n ≡ None
no_least m zero = refl
no_least m (suc n) = ap₂ lesser (no_least m n) (ap path_in (no_verdict m n))

at_nothing : (n k : ℕ) → k < n → at_index (replicate n nothing) k ≡ nothing
at_nothing zero k l = absurd (omega arith)
at_nothing (suc n) zero l = refl
at_nothing (suc n) (suc k) l = at_nothing n k (omega arith)

pub total_of_nones : (j : Job) (t : Running) → t.sums ≡ replicate (length j.bits) nothing → t.over ≡ None → IsTotalOf j (nones j) t
unfolding slot_sums least_over
total_of_nones j t e f = record {
  sums = e
      ∙ fill_by_all (sum_of_slots (slot_at (nones j)) (ranges j)) (replicate (length j.bits) nothing) (length j.bits) nothing
      (length-replicate (length j.bits) nothing)
      (λ k l. at_nothing (length j.bits) k l ∙ sym (no_sum (ranges j) (ranges j) k));
  over = f ∙ sym (no_least (ranges j) (ranges j));
}

-- ---- one more verdict
are_fit : (j : Job) (s : Slots) → AllFit j s → AreFit j (slot_at s)
are_fit j s fit = record { each = λ r v l e. fit.each r v e }

are_full : (j : Job) (s : Slots) → AllFit j s → AreFullBelow j (slot_at s)
are_full j s fit = record { each = λ r sums l e. (fit.each r (Sum sums) e).0 }

below_length : (j : Job) (s : Slots) (range : ℕ) (v : Verdict) → IsNext j s range v → range < length s
below_length j s range v n = subst (λ (k : ℕ). range < k) (sym n.count) n.below

-- the slots with it fit too
pub fit_more : (j : Job) (s : Slots) (range : ℕ) (v : Verdict) → IsNext j s range v → AllFit j (set s range (Some v))
fit_more j s range v n = record {
  each = λ r w held. elim (cases_eq r range) [
    | inl same ↦
        let here : Some v ≡ Some w =
        sym (get_or-set_same s range (Some v) None (below_length j s range v n)) ∙ ap (slot_at (set s range (Some v))) (sym same) ∙ held in
        subst (λ (n : ℕ). Fits j n w) (sym same) (subst (Fits j range) (let e : v ≡ w = cc in e) n.fits)
    | inr other ↦ n.fit.each r w (sym (get_or-set_other s range r (Some v) None other) ∙ held)
  ];
}

filled_more : (j : Job) (s : Slots) (range : ℕ) (v : Verdict) → IsNext j s range v → IsFilled j (slot_at s) (slot_at (set s range (Some v))) range v
filled_more j s range v n = record {
  below = n.below;
  empty = n.empty;
  filled = get_or-set_same s range (Some v) None (below_length j s range v n);
  elsewhere = λ r other. get_or-set_other s range r (Some v) None other;
}

pub parts_more : (j : Job) (s : Slots) (range : ℕ) (v : Verdict) → IsNext j s range v → AreMore j (slot_at s) (slot_at (set s range (Some v))) v
parts_more j s range v n = one_more j _ _ range v (are_full j _ (fit_more j s range v n)) (filled_more j s range v n)

pub total_more : (j : Job) (s : Slots) (range : ℕ) (v : Verdict) (old new : Running) → IsTotalOf j s old → IsNext j s range v
    → new.sums ≡ added_verdict old.sums v → new.over ≡ lesser old.over (path_in (Some v)) → IsTotalOf j (set s range (Some v)) new
total_more j s range v old new t n e f =
    let m = parts_more j s range v n in
    record {
      sums = e ∙ ap (λ xs. added_verdict xs v) t.sums ∙ sym m.sums;
      over = f ∙ ap (λ o. lesser o (path_in (Some v))) t.over ∙ sym m.least;
    }

-- numbers name no path
pub no_path : (o : Option ℕ) → o ≡ lesser o None
no_path None = refl
no_path (Some path) = refl

-- the sums that are written over all the old ones are what stands there
pub written_whole : (n : ℕ) (xs ys : List Omega) → n ≡ length ys → length xs ≡ length ys → take n (xs ++ drop (length xs) ys) ≡ xs
written_whole n xs ys e f = take_at xs (drop (length xs) ys) n (sym (e ∙ sym f))

-- sums to which these numbers may be added
pub record AreAddable (old more : List Omega) : Type 0 where
  pub even : length old ≡ length more
  pub within : All (IsWithin 126) (added old more)

pub are_addable : (j : Job) (s : Slots) (range : ℕ) (t : Running) (more : List Omega) → IsJob j → IsTotalOf j s t → IsNext j s range (Sum more)
    → AreAddable t.sums more
unfolding slot_sums
are_addable j s range t more h is n = record {
  even = ap (length {A = Omega}) is.sums ∙ length-map-range_with_len (sum_of_slots (slot_at s) (ranges j)) 0 (length j.bits) ∙ sym n.fits.0;
  within = subst (All (IsWithin 126)) ((parts_more j s range (Sum more) n).sums ∙ ap (λ xs. added xs more) (sym is.sums))
      (bounded j (slot_at (set s range (Some (Sum more)))) h (are_fit j _ (fit_more j s range (Sum more) n))).sums;
}

-- ---- which verdicts are next
-- the first verdict of slots that have none
pub next_of_nones : (j : Job) (range : ℕ) (v : Verdict) → range < ranges j → Fits j range v → IsNext j (nones j) range v
next_of_nones j range v l fits = record {
  count = length-replicate (ranges j) None;
  fit = record { each = λ r w held. absurd (no_held w (sym (no_verdict (ranges j) r) ∙ held)) };
  below = l;
  empty = no_verdict (ranges j) range;
  fits = fits;
}
  where
    no_held : (w : Verdict) → None ≡ Some w → ⊥
    no_held w e = cc

-- the verdict of another range, once one is added
pub next_more : (j : Job) (s : Slots) (range other : ℕ) (v w : Verdict) → IsNext j s range v → other ≢ range → other < ranges j
    → slot_at s other ≡ None → Fits j other w → IsNext j (set s range (Some v)) other w
next_more j s range other v w n ne l e fits = record {
  count = length-set s range (Some v) ∙ n.count;
  fit = fit_more j s range v n;
  below = l;
  empty = get_or-set_other s range other (Some v) None ne ∙ e;
  fits = fits;
}

-- ---- the total of slots that fit
pub whole_total : (j : Job) (s : Slots) (t : Running) → IsJob j → AllFit j s → IsTotalOf j s t → IsWholeTotal j s t
whole_total j s t h fit is = record {
  total = parted j (slot_at s) (are_full j s fit) ∙ ap₂ over_or (sym is.over) (sym is.sums);
  within = subst (All (IsWithin 126)) (sym is.sums) (bounded j (slot_at s) h (are_fit j s fit)).sums;
}
