-- The slots of a run: a range's value fits, slots that fit stay within the limits, and the total in two parts.
use Rattle.std.proofs.Common.{◌≡◌, ◌≢◌, ℕ, zero, suc, inl, inr, ◌+◌, ◌-◌, ◌*◌, ◌^◌, ◌<◌, ◌≤◌, List, length, map, Option, Some, None, arith, refl, sym, ap, subst, ◌∙◌}
use Rattle.std.specs.List.{All, range_with_len}
use Rattle.std.proofs.Math.Path.{ap₂}
use Rattle.std.proofs.lemmas.Nat.{mul-le}
use Rattle.std.proofs.lemmas.List.{length-map, get_or_past}
use Rattle.std.proofs.lemmas.List.Elements.{All-weaker, All-map, All-get_or}
use Rattle.std.proofs.lemmas.List.FromFn.{fill_by_all, length-map-range_with_len, get_or-map-range_with_len}
use Rattle.std.proofs.lemmas.Bool.{cases_eq, cases_lt}
use Rattle.qh_ring.specs.declared.number.Omega.{Omega}
use Rattle.qh_ring.specs.Numbers.{sum, nothing, IsWithin}
use Rattle.qh_ring.specs.States.{sum_below, at_index}
use Rattle.qh_ring.proofs.SumLemmas.{sum_nothing, sum_comm, sum_assoc, sum_below_same}
use Rattle.qh_plan.specs.declared.verdict.Verdict.{Verdict}
use Rattle.qh_plan.specs.declared.verdict.Verdict.TheVariants.{Sum, Over}
use Rattle.qh_plan.specs.Jobs.{Job, IsJob, per_range, ranges, first_path}
use Rattle.qh_plan.specs.Ranges.{IsSmall, Fits}
use Rattle.qh_plan.specs.Verdicts.{merged_slot, total_below, total}
use Rattle.qh_plan.proofs.PlanLemmas.{counted_job}
use Rattle.qh_plan.specs.MeaningLimits.{path_fits}
use Rattle.qh_plan.specs.Values.{over_or_sum, first_over, sums_of, range_value}
use Rattle.qh_plan.specs.Slots.{slot_number, sum_of_slots, slot_sums, path_in, lesser, least_below, least_over, over_or, added_verdict, AreFit, AreBounded, AreFullBelow, IsFilled, AreMore}
use Rattle.qh_plan.proofs.LimitLemmas.{IsAtMost, sum_below_at_most, within_126}
use Rattle.qh_plan.proofs.RunValueLemmas.{sums_at_most, few_run}
use Rattle.qh_plan.proofs.OverLemmas.{failing_none, failing_some}
use Rattle.qh_plan.proofs.TotalLemmas.{length-added, at_added, nothing_at}

-- ---- a range's value fits

small_by : (m limit : ℕ) → m < limit → (z : Omega) → IsAtMost m z → IsSmall limit z
small_by m limit l z h = record {
  a = let s = h.a in omega arith;
  b = let s = h.b in omega arith;
  c = let s = h.c in omega arith;
  d = let s = h.d in omega arith;
}

pub range_fits : (j : Job) → IsJob j → (r : ℕ) → Fits j r (range_value j r)
unfolding range_value
range_fits j h r = by_first (first_over j (first_path j r) (per_range j)) refl
  where
    few_parts : (n : ℕ) → 0 < n → n * (4 * (2 ^ 92 - 1)) < n * 2 ^ 94
    few_parts n l = omega arith

    by_first : (o : Option ℕ) → first_over j (first_path j r) (per_range j) ≡ o
        → Fits j r (over_or_sum (first_path j r) o (sums_of j (first_path j r) (per_range j)))
    by_first None e = (
      length-map j.bits _,
      All-weaker (IsAtMost (per_range j * (4 * (2 ^ 92 - 1)))) (IsSmall (per_range j * 2 ^ 94))
          (small_by _ _ (few_parts (per_range j) (counted_job j h).some_path)) (sums_of j (first_path j r) (per_range j))
          (sums_at_most j (first_path j r) (per_range j) (failing_none (per_range j) (λ k. path_fits j (first_path j r + k)) e)),
    )
    by_first (Some k) e =
        let f = failing_some (per_range j) (λ k. path_fits j (first_path j r + k)) k e in
        record { from = omega arith; below = let b = f.below in omega arith }

-- ---- slots that fit

full_below : (j : Job) (slots : ℕ → Option Verdict) → AreFit j slots → AreFullBelow j slots
full_below j slots fit = record { each = λ r sums l e. (fit.each r (Sum sums) l e).0 }

at_most_small : (limit : ℕ) (z : Omega) → IsSmall limit z → IsAtMost (limit - 1) z
at_most_small limit z h = record {
  a = let s = h.a in omega arith;
  b = let s = h.b in omega arith;
  c = let s = h.c in omega arith;
  d = let s = h.d in omega arith;
}

nothing_at_most : (m : ℕ) → IsAtMost m nothing
nothing_at_most m = record { a = omega arith; b = omega arith; c = omega arith; d = omega arith }

sums_at_place : (limit : ℕ) (sums : List Omega) (place : ℕ) → All (IsSmall limit) sums → IsAtMost (limit - 1) (at_index sums place)
sums_at_place limit sums place h = elim (cases_lt place (length sums)) [
  | inl l ↦ at_most_small limit (at_index sums place) (All-get_or (IsSmall limit) sums place nothing l h)
  | inr g ↦ subst (IsAtMost (limit - 1)) (sym (get_or_past sums place nothing g)) (nothing_at_most (limit - 1))
]

slot_at_most : (j : Job) (r : ℕ) (o : Option Verdict) (place : ℕ) → ((v : Verdict) → o ≡ Some v → Fits j r v) → IsAtMost (per_range j * 2 ^ 94 - 1) (slot_number o place)
slot_at_most j r None place h = nothing_at_most _
slot_at_most j r (Some (Sum sums)) place h = sums_at_place (per_range j * 2 ^ 94) sums place (h (Sum sums) refl).1
slot_at_most j r (Some (Over path)) place h = nothing_at_most _

-- the sum over n of r ranges with m paths each, all of whose numbers are below m·2^94
few_slots : (n r m : ℕ) → n ≤ r → r * m ≤ 2 ^ 32 → n * (m * 2 ^ 94 - 1) < 2 ^ 126
few_slots zero r m l f = omega arith
few_slots (suc n) r zero l f = none (suc n)
  where
    none : (n : ℕ) → n * (0 * 2 ^ 94 - 1) < 2 ^ 126
    none n = omega arith
few_slots (suc n) r (suc m) l f =
    let b : suc n * suc m ≤ r * suc m = mul-le (suc n) (suc m) r (suc m) l (omega arith) in
    less (suc n * (suc m * 2 ^ 94 - 1)) (suc n) (suc n * suc m) (scaled (suc n) m (2 ^ 94) (omega arith)) (omega arith) (omega arith)
  where
    scaled : (n m k : ℕ) → 0 < k → n * (suc m * k - 1) + n ≡ n * suc m * k
    scaled n m zero p = absurd (omega arith)
    scaled n m (suc k) p =
        let f : suc m * suc k - 1 ≡ m * suc k + k = omega arith in
        rw f (omega arith)

    less : (t n p : ℕ) → t + n ≡ p * 2 ^ 94 → p ≤ 2 ^ 32 → 0 < n → t < 2 ^ 126
    less t n p e l q = omega arith

number_within : (j : Job) (slots : ℕ → Option Verdict) → IsJob j → AreFit j slots → (n place : ℕ) → n ≤ ranges j → IsWithin 126 (sum_of_slots slots n place)
number_within j slots h fit n place l =
    within_126 (n * (per_range j * 2 ^ 94 - 1)) _ (few_slots n (ranges j) (per_range j) l (few_run j h))
    (sum_below_at_most n (per_range j * 2 ^ 94 - 1) (λ r. slot_number (slots r) place)
    (λ r b. slot_at_most j r (slots r) place (λ v e. fit.each r v (omega arith) e)))

-- what the slots below n give together, for each asked index
sums_below : List ℕ → (ℕ → Option Verdict) → ℕ → List Omega
sums_below bits slots n = map (sum_of_slots slots n) (range_with_len 0 (length bits))

length-sums_below : (bits : List ℕ) (slots : ℕ → Option Verdict) (n : ℕ) → length (sums_below bits slots n) ≡ length bits
unfolding sums_below
length-sums_below bits slots n = length-map-range_with_len (sum_of_slots slots n) 0 (length bits)

at_sums_below : (bits : List ℕ) (slots : ℕ → Option Verdict) (n k : ℕ) → k < length bits → at_index (sums_below bits slots n) k ≡ sum_of_slots slots n k
unfolding sums_below
at_sums_below bits slots n k l = get_or-map-range_with_len (sum_of_slots slots n) 0 (length bits) k k nothing l (omega arith)

same_sums : (bits : List ℕ) (slots : ℕ → Option Verdict) (n : ℕ) (xs : List Omega) → length xs ≡ length bits
    → ((k : ℕ) → k < length bits → at_index xs k ≡ sum_of_slots slots n k) → xs ≡ sums_below bits slots n
unfolding sums_below
same_sums bits slots n xs e h = fill_by_all (sum_of_slots slots n) xs (length bits) nothing e h

sums_within : (j : Job) (slots : ℕ → Option Verdict) → IsJob j → AreFit j slots → (n : ℕ) → n ≤ ranges j → All (IsWithin 126) (sums_below j.bits slots n)
unfolding sums_below
sums_within j slots h fit n l = All-map (IsWithin 126) (sum_of_slots slots n) (range_with_len 0 (length j.bits)) (λ i d b. number_within j slots h fit n _ l)

-- ---- the total in two parts

added_slot : List Omega → Option Verdict → List Omega
added_slot sums None = sums
added_slot sums (Some v) = added_verdict sums v

nothings : (bits : List ℕ) (slots : ℕ → Option Verdict) → map (λ b. nothing) bits ≡ sums_below bits slots 0
nothings bits slots = same_sums bits slots 0 (map (λ b. nothing) bits) (length-map bits _) (nothing_at bits)

-- the sums with those of the next slot
sums_more : (bits : List ℕ) (slots : ℕ → Option Verdict) (n : ℕ) (o : Option Verdict) → slots n ≡ o
    → ((sums : List Omega) → slots n ≡ Some (Sum sums) → length sums ≡ length bits)
    → added_slot (sums_below bits slots n) o ≡ sums_below bits slots (suc n)
unfolding added_slot
sums_more bits slots n None e full =
    same_sums bits slots (suc n) _ (length-sums_below bits slots n) (λ k l.
    at_sums_below bits slots n k l ∙ sym (ap (λ o. sum (sum_of_slots slots n k) (slot_number o k)) e ∙ sum_nothing _))
sums_more bits slots n (Some (Over path)) e full =
    same_sums bits slots (suc n) _ (length-sums_below bits slots n) (λ k l.
    at_sums_below bits slots n k l ∙ sym (ap (λ o. sum (sum_of_slots slots n k) (slot_number o k)) e ∙ sum_nothing _))
sums_more bits slots n (Some (Sum more)) e full =
    let m : length more ≡ length bits = full more e in
    let s = length-sums_below bits slots n in
    same_sums bits slots (suc n) _ (length-added (sums_below bits slots n) more (length bits) s m) (λ k l.
    at_added (sums_below bits slots n) more k (s ∙ sym m) (subst (λ t. k < t) (sym s) l)
    ∙ ap₂ sum (at_sums_below bits slots n k l) (sym (ap (λ o. slot_number o k) e)))

merged_parts : (o : Option ℕ) (sums : List Omega) (w : Option Verdict) → merged_slot (over_or o sums) w ≡ over_or (lesser o (path_in w)) (added_slot sums w)
unfolding added_slot
merged_parts None sums None = refl
merged_parts None sums (Some (Sum more)) = refl
merged_parts None sums (Some (Over path)) = refl
merged_parts (Some p) sums None = refl
merged_parts (Some p) sums (Some (Sum more)) = refl
merged_parts (Some p) sums (Some (Over path)) = refl

parted_below : (bits : List ℕ) (slots : ℕ → Option Verdict) (n : ℕ) → ((r : ℕ) (sums : List Omega) → r < n → slots r ≡ Some (Sum sums) → length sums ≡ length bits)
    → total_below bits slots n ≡ over_or (least_below slots n) (sums_below bits slots n)
parted_below bits slots zero full = ap Sum (nothings bits slots)
parted_below bits slots (suc n) full =
    ap (λ v. merged_slot v (slots n)) (parted_below bits slots n (λ r sums l. full r sums (omega arith)))
    ∙ merged_parts (least_below slots n) (sums_below bits slots n) (slots n)
    ∙ ap (over_or (least_below slots (suc n))) (sums_more bits slots n (slots n) refl (λ sums. full n sums (omega arith)))

pub parted : (j : Job) (slots : ℕ → Option Verdict) → AreFullBelow j slots → total j slots ≡ over_or (least_over j slots) (slot_sums j slots)
unfolding sums_below slot_sums least_over
parted j slots full = parted_below j.bits slots (ranges j) full.each

sum_parts : (o : Option ℕ) (sums s : List Omega) → over_or o sums ≡ Sum s → sums ≡ s
sum_parts None sums s e = (cc)
sum_parts (Some path) sums s e = (cc)

below_within : (j : Job) (slots : ℕ → Option Verdict) → IsJob j → AreFit j slots → (n : ℕ) (sums : List Omega) → n ≤ ranges j → total_below j.bits slots n ≡ Sum sums → All (IsWithin 126) sums
below_within j slots h fit n sums l e =
    let full = full_below j slots fit in
    subst (All (IsWithin 126))
    (sum_parts (least_below slots n) (sums_below j.bits slots n) sums (sym (parted_below j.bits slots n (λ r s b. full.each r s (omega arith))) ∙ e))
    (sums_within j slots h fit n l)

pub bounded : (j : Job) (slots : ℕ → Option Verdict) → IsJob j → AreFit j slots → AreBounded j slots
unfolding sums_below slot_sums
bounded j slots h fit = record {
  number = number_within j slots h fit;
  sums = sums_within j slots h fit (ranges j) (omega arith);
  below = below_within j slots h fit;
  total = λ sums. below_within j slots h fit (ranges j) sums (omega arith);
}

-- ---- the slots below a number alone

same_below : (bits : List ℕ) (slots others : ℕ → Option Verdict) (n : ℕ) → ((r : ℕ) → r < n → slots r ≡ others r) → total_below bits slots n ≡ total_below bits others n
same_below bits slots others zero h = refl
same_below bits slots others (suc n) h = ap₂ merged_slot (same_below bits slots others n (λ r l. h r (omega arith))) (h n (omega arith))

pub total_same : (j : Job) (slots others : ℕ → Option Verdict) → ((r : ℕ) → r < ranges j → slots r ≡ others r) → total j slots ≡ total j others
total_same j slots others h = same_below j.bits slots others (ranges j) h

-- ---- one more verdict

sum_swap : (x y z : Omega) → sum (sum x y) z ≡ sum (sum x z) y
sum_swap x y z = sum_assoc x y z ∙ ap (sum x) (sum_comm y z) ∙ sym (sum_assoc x z y)

-- a sum in which one term that was 0 is another number
sum_changed : (n i : ℕ) (f g : ℕ → Omega) → i < n → f i ≡ nothing → ((k : ℕ) → k ≢ i → g k ≡ f k) → sum_below n g ≡ sum (sum_below n f) (g i)
sum_changed zero i f g l e h = absurd (omega arith)
sum_changed (suc n) i f g l e h = elim (cases_eq n i) [
  | inl s ↦
      ap₂ sum (sum_below_same n g f (λ k b. h k (omega arith))) (ap g s)
      ∙ ap (λ x. sum x (g i)) (sym (ap (sum (sum_below n f)) (ap f s ∙ e) ∙ sum_nothing _))
  | inr ne ↦
      ap₂ sum (sum_changed n i f g (omega arith) e h) (h n ne)
      ∙ sum_swap (sum_below n f) (g i) (f n)
]

lesser_none : (o : Option ℕ) → lesser o None ≡ o
lesser_none None = refl
lesser_none (Some path) = refl

lesser_swap : (o p q : Option ℕ) → lesser (lesser o p) q ≡ lesser (lesser o q) p
lesser_swap None None None = refl
lesser_swap None None (Some q) = refl
lesser_swap None (Some p) None = refl
lesser_swap None (Some p) (Some q) = ap Some (omega arith)
lesser_swap (Some o) None None = refl
lesser_swap (Some o) None (Some q) = refl
lesser_swap (Some o) (Some p) None = refl
lesser_swap (Some o) (Some p) (Some q) = ap Some (omega arith)

least_same : (n : ℕ) (slots others : ℕ → Option Verdict) → ((r : ℕ) → r < n → others r ≡ slots r) → least_below others n ≡ least_below slots n
least_same zero slots others h = refl
least_same (suc n) slots others h = ap₂ lesser (least_same n slots others (λ r l. h r (omega arith))) (ap path_in (h n (omega arith)))

least_changed : (n i : ℕ) (slots others : ℕ → Option Verdict) → i < n → slots i ≡ None → ((r : ℕ) → r ≢ i → others r ≡ slots r)
    → least_below others n ≡ lesser (least_below slots n) (path_in (others i))
least_changed zero i slots others l e h = absurd (omega arith)
least_changed (suc n) i slots others l e h = elim (cases_eq n i) [
  | inl s ↦
      ap₂ lesser (least_same n slots others (λ r b. h r (omega arith))) (ap (λ k. path_in (others k)) s)
      ∙ ap (λ o. lesser o (path_in (others i))) (sym (ap (lesser (least_below slots n)) (ap path_in (ap slots s ∙ e)) ∙ lesser_none _))
  | inr ne ↦
      ap₂ lesser (least_changed n i slots others (omega arith) e h) (ap path_in (h n ne))
      ∙ lesser_swap (least_below slots n) (path_in (others i)) (path_in (slots n))
]

more_sums : (bits : List ℕ) (slots others : ℕ → Option Verdict) (n r : ℕ) (v : Verdict) → r < n → slots r ≡ None → others r ≡ Some v
    → ((q : ℕ) → q ≢ r → others q ≡ slots q) → ((sums : List Omega) → v ≡ Sum sums → length sums ≡ length bits)
    → added_verdict (sums_below bits slots n) v ≡ sums_below bits others n
more_sums bits slots others n r (Over path) l e f h full =
    same_sums bits others n _ (length-sums_below bits slots n) (λ k b.
    at_sums_below bits slots n k b
    ∙ sym (sum_changed n r (λ q. slot_number (slots q) k) (λ q. slot_number (others q) k) l (ap (λ o. slot_number o k) e) (λ q ne. ap (λ o. slot_number o k) (h q ne))
    ∙ ap (λ o. sum (sum_of_slots slots n k) (slot_number o k)) f ∙ sum_nothing _))
more_sums bits slots others n r (Sum more) l e f h full =
    let m : length more ≡ length bits = full more refl in
    let s = length-sums_below bits slots n in
    same_sums bits others n _ (length-added (sums_below bits slots n) more (length bits) s m) (λ k b.
    at_added (sums_below bits slots n) more k (s ∙ sym m) (subst (λ t. k < t) (sym s) b)
    ∙ ap (λ x. sum x (at_index more k)) (at_sums_below bits slots n k b)
    ∙ sym (sum_changed n r (λ q. slot_number (slots q) k) (λ q. slot_number (others q) k) l (ap (λ o. slot_number o k) e) (λ q ne. ap (λ o. slot_number o k) (h q ne))
    ∙ ap (λ o. sum (sum_of_slots slots n k) (slot_number o k)) f))

pub one_more : (j : Job) (slots others : ℕ → Option Verdict) (range : ℕ) (verdict : Verdict)
    → AreFullBelow j others → IsFilled j slots others range verdict → AreMore j slots others verdict
unfolding sums_below slot_sums least_over
one_more j slots others range verdict full h = record {
  sums = sym (more_sums j.bits slots others (ranges j) range verdict h.below h.empty h.filled h.elsewhere
      (λ sums e. full.each range sums h.below (h.filled ∙ ap Some e)));
  least = least_changed (ranges j) range slots others h.below h.empty h.elsewhere
      ∙ ap (λ o. lesser (least_over j slots) (path_in o)) h.filled;
}
