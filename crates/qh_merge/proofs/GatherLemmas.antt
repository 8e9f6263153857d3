-- What is kept of the inputs, as they are taken.
use Rattle.std.proofs.Common.{◌≡◌, ℕ, zero, suc, ◌≤◌, List, [], ◌∷◌, ◌++◌, length, take, replicate, Option, Some, None, refl, sym, ap, subst, ◌∙◌}
use Rattle.std.specs.Prelude.{unwrap_or}
use Rattle.std.specs.List.{All}
use Rattle.std.proofs.Math.Path.{ap₂}
use Rattle.std.proofs.lemmas.List.{length-replicate, get_or-replicate}
use Rattle.std.proofs.lemmas.Option.{none-some}
use Rattle.std.proofs.lemmas.List.FromFn.{fill_by_all, length-map-range_with_len}
use Rattle.qh_ring.specs.declared.number.Omega.{Omega}
use Rattle.qh_ring.specs.Numbers.{IsWithin, nothing}
use Rattle.qh_ring.proofs.SumLemmas.{sum_nothing}
use Rattle.qh_plan.specs.declared.verdict.Verdict.{Verdict}
use Rattle.qh_plan.specs.declared.verdict.Verdict.TheVariants.{Sum}
use Rattle.qh_plan.specs.Jobs.{Job, IsJob, ranges}
use Rattle.qh_plan.specs.Slots.{AreFit, least_below, least_over, lesser, slot_sums, sum_of_slots}
use Rattle.qh_slots.specs.Stands.{slot_at}
use Rattle.qh_merge.specs.Inputs.{Input}
use Rattle.qh_merge.specs.Union.{family, first_with, least_after, sums_after, union_slots, whole}
use Rattle.qh_merge.specs.Gathered.{Adds, IsGathered, Lists, State}
use Rattle.qh_merge.proofs.BoundLemmas.{sums_within}
use Rattle.qh_merge.proofs.UnionLemmas.{Joins, added_parts, fit_part, joined, part_of, repeat_fit, same_slots}

-- ---- no input
no_slots : ℕ → Option Verdict
no_slots q = None

sum_none : (n k : ℕ) → sum_of_slots no_slots n k ≡ nothing
unfolding no_slots
sum_none zero k = refl
sum_none (suc n) k = sum_nothing _ ∙ sum_none n k

least_none : (n : ℕ) → least_below no_slots n ≡ None
unfolding no_slots
least_none zero = refl
least_none (suc n) = ap (λ (o : Option ℕ). lesser o None) (least_none n)

sums_start : (j : Job) → replicate (length j.bits) nothing ≡ slot_sums (whole j) (union_slots j [])
unfolding slot_sums no_slots
sums_start j =
    fill_by_all (sum_of_slots no_slots (ranges (whole j))) (replicate (length j.bits) nothing) (length j.bits) nothing (length-replicate (length j.bits) nothing)
    (λ k l. get_or-replicate (length j.bits) k nothing nothing l ∙ sym (sum_none (ranges (whole j)) k))

least_start : (j : Job) → None ≡ least_over (whole j) (union_slots j [])
unfolding least_over no_slots
least_start j = sym (least_none (ranges (whole j)))

pub gathered_start : (j : Job) (s : State) → IsJob j → s ≡ record { job = j; prefixes = []; sums = replicate (length j.bits) nothing; over = None } → IsGathered [] s
gathered_start j s valid is = subst (IsGathered []) (sym is) (record {
  valid = valid;
  family = tt;
  prefixes = refl;
  sums = sums_start j;
  over = least_start j;
  fit = record { each = λ r v below e. absurd (none-some v e) };
})

-- ---- one more
pub gathered_new : (w : ℕ) (x : Input) (earlier : List Input) (s t : State) → IsGathered earlier s → family x earlier ≡ s.job → Joins s.job w x earlier → Adds s w x.slots t → IsGathered (x ∷ earlier) t
gathered_new w x earlier s t is fam joins adds =
    let all = joined s.job w x earlier joins is.fit in
    record {
      valid = subst IsJob (sym adds.job) is.valid;
      family = fam ∙ sym adds.job;
      prefixes = adds.prefixes ∙ ap₂ (λ (ps : List ℕ) (o : Option ℕ). ps ++ unwrap_or o 0 ∷ []) is.prefixes (sym joins.new.prefix);
      sums = adds.sums ∙ ap (λ (z : List Omega). sums_after z x.slots) is.sums ∙ all.sums ∙ ap (λ (j : Job). slot_sums (whole j) (union_slots j (x ∷ earlier))) (sym adds.job);
      over = adds.over ∙ ap (λ (o : Option ℕ). least_after o x.slots) is.over ∙ all.least ∙ ap (λ (j : Job). least_over (whole j) (union_slots j (x ∷ earlier))) (sym adds.job);
      fit = subst (λ (j : Job). AreFit (whole j) (union_slots j (x ∷ earlier))) (sym adds.job) all.fit;
    }

pub gathered_repeat : (w : ℕ) (x y : Input) (earlier : List Input) (s t : State) → IsGathered earlier s → family x earlier ≡ s.job → x.job.prefix ≡ Some w → first_with w earlier ≡ Some y → Lists s w t → IsGathered (x ∷ earlier) t
gathered_repeat w x y earlier s t is fam e f lists =
    let same = same_slots s.job w x y earlier e f in
    record {
      valid = subst IsJob (sym lists.job) is.valid;
      family = fam ∙ sym lists.job;
      prefixes = lists.prefixes ∙ ap₂ (λ (ps : List ℕ) (o : Option ℕ). ps ++ unwrap_or o 0 ∷ []) is.prefixes (sym e);
      sums = lists.sums ∙ is.sums ∙ ap (slot_sums (whole s.job)) same ∙ ap (λ (j : Job). slot_sums (whole j) (union_slots j (x ∷ earlier))) (sym lists.job);
      over = lists.over ∙ is.over ∙ ap (least_over (whole s.job)) same ∙ ap (λ (j : Job). least_over (whole j) (union_slots j (x ∷ earlier))) (sym lists.job);
      fit = subst (λ (j : Job). AreFit (whole j) (union_slots j (x ∷ earlier))) (sym lists.job) (repeat_fit s.job w x y earlier e f is.fit);
    }

-- ---- what the sums take of a new input
pub within_parts : (w n : ℕ) (x : Input) (earlier : List Input) (s : State) → IsGathered earlier s → Joins s.job w x earlier → n ≤ length x.slots → All (IsWithin 126) (sums_after s.sums (take n x.slots))
within_parts w n x earlier s is joins le =
    subst (All (IsWithin 126)) (sym (ap (λ (z : List Omega). sums_after z (take n x.slots)) is.sums ∙ (added_parts s.job w n x earlier joins is.fit le).sums))
    (sums_within s.job (union_slots s.job (part_of n x ∷ earlier)) is.valid (fit_part s.job w n x earlier joins is.fit))

pub length_sums : (j : Job) (slots : ℕ → Option Verdict) → length (slot_sums (whole j) slots) ≡ length j.bits
unfolding slot_sums
length_sums j slots = length-map-range_with_len (sum_of_slots slots (ranges (whole j))) 0 (length j.bits)

pub even_parts : (w : ℕ) (x : Input) (earlier : List Input) (s : State) → IsGathered earlier s → Joins s.job w x earlier → (r : ℕ) (more : List Omega) → slot_at x.slots r ≡ Some (Sum more) → length s.sums ≡ length more
even_parts w x earlier s is joins r more e =
    ap (λ (z : List Omega). length z) is.sums ∙ length_sums s.job (union_slots s.job earlier) ∙ ap (λ (b : List ℕ). length b) joins.family.bits ∙ sym (joins.fits.each r (Sum more) e).0
