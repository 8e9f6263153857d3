-- The total of the ranges below one, as a loop over the ranges meets it.
use Rattle.std.proofs.Common.{◌≡◌, ◌≢◌, ℕ, zero, suc, ◌+◌, ◌-◌, ◌*◌, ◌^◌, ◌<◌, ◌≤◌, inl, inr, Bool, true, false, List, [], ◌∷◌, length, map, Option, Some, None, All, arith, refl, sym, ap, subst, ◌∙◌}
use Rattle.std.proofs.lemmas.List.Elements.{All-nil, All-cons, All-head, All-tail}
use Rattle.std.proofs.lemmas.List.{length-map}
use Rattle.std.proofs.lemmas.Nat.{mul-le}
use Rattle.std.proofs.lemmas.Bool.{cases_eq, cases_lt, false≢true}
use Rattle.qh_ring.specs.declared.number.Omega.{Omega}
use Rattle.qh_ring.specs.Numbers.{sum, nothing, IsWithin}
use Rattle.qh_plan.specs.declared.verdict.Verdict.{Verdict}
use Rattle.qh_plan.specs.declared.verdict.Verdict.TheVariants.{Sum, Over}
use Rattle.qh_plan.specs.Jobs.{Job, IsJob, per_range, ranges, earlier, first_path}
use Rattle.qh_plan.specs.Verdicts.{added, merged}
use Rattle.qh_plan.specs.MeaningLimits.{path_fits}
use Rattle.qh_plan.specs.Values.{over_or_sum, first_over, sums_of, range_value, run_value}
use Rattle.qh_plan.specs.Laws.{IsInRun}
use Rattle.qh_plan.proofs.LimitLemmas.{IsAtMost, sum_at_most, within_126}
use Rattle.qh_plan.proofs.RunValueLemmas.{sums_at_most, few_run}
use Rattle.qh_plan.proofs.OverLemmas.{failing_none, failing_some, names_least}
use Rattle.qh_range.specs.Totals.{total_of}

sum_same : (s t : List Omega) → ◌≡◌ {A = Verdict} (Sum s) (Sum t) → s ≡ t
sum_same s t e = cc

over_same : (p q : ℕ) → ◌≡◌ {A = Verdict} (Over p) (Over q) → p ≡ q
over_same p q e = cc

sum_over : (s : List Omega) (p : ℕ) → ◌≡◌ {A = Verdict} (Sum s) (Over p) → ⊥
sum_over s p e = cc

-- ---- one range
pub record IsSumOf (j : Job) (i : ℕ) (t : List Omega) : Type 0 where
  pub sums : t ≡ sums_of j (first_path j i) (per_range j)
  pub fit : (k : ℕ) → k < per_range j → path_fits j (first_path j i + k) ≡ true

sum_by : (j : Job) (i : ℕ) (o : Option ℕ) (t : List Omega) → first_over j (first_path j i) (per_range j) ≡ o
    → over_or_sum (first_path j i) o (sums_of j (first_path j i) (per_range j)) ≡ Sum t → IsSumOf j i t
sum_by j i None t e f = record { sums = sym (sum_same _ _ f); fit = failing_none (per_range j) (λ k. path_fits j (first_path j i + k)) e }
sum_by j i (Some k) t e f = absurd (sum_over t (first_path j i + k) (sym f))

pub range_sum : (j : Job) (i : ℕ) (t : List Omega) → range_value j i ≡ Sum t → IsSumOf j i t
unfolding range_value
range_sum j i t e = sum_by j i (first_over j (first_path j i) (per_range j)) t refl e

-- the least path of the range that is over
pub record IsOverAt (j : Job) (i path : ℕ) : Type 0 where
  pub place : ℕ
  pub below : place < per_range j
  pub is : path ≡ first_path j i + place
  pub fails : path_fits j path ≡ false
  pub before : (k : ℕ) → k < place → path_fits j (first_path j i + k) ≡ true

over_by : (j : Job) (i : ℕ) (o : Option ℕ) (path : ℕ) → first_over j (first_path j i) (per_range j) ≡ o
    → over_or_sum (first_path j i) o (sums_of j (first_path j i) (per_range j)) ≡ Over path → IsOverAt j i path
over_by j i None path e f = absurd (sum_over _ path f)
over_by j i (Some k) path e f =
    let first = failing_some (per_range j) (λ k. path_fits j (first_path j i + k)) k e in
    let same : path ≡ first_path j i + k = sym (over_same _ _ f) in
    record { place = k; below = first.below; is = same; fails = ap (path_fits j) same ∙ first.fails; before = first.first }

pub range_over : (j : Job) (i path : ℕ) → range_value j i ≡ Over path → IsOverAt j i path
unfolding range_value
range_over j i path e = over_by j i (first_over j (first_path j i) (per_range j)) path refl e

-- ---- the ranges below one
record IsMerged (v w : Verdict) (s : List Omega) : Type 0 where
  first : List Omega
  second : List Omega
  first_is : v ≡ Sum first
  second_is : w ≡ Sum second
  sums : s ≡ added first second

merged_sum : (v w : Verdict) (s : List Omega) → merged v w ≡ Sum s → IsMerged v w s
merged_sum (Sum a) (Sum b) s e = record { first = a; second = b; first_is = refl; second_is = refl; sums = sym (sum_same _ _ e) }
merged_sum (Sum a) (Over q) s e = absurd (sum_over s q (sym e))
merged_sum (Over p) (Sum b) s e = absurd (sum_over s p (sym e))
merged_sum (Over p) (Over q) s e = absurd (sum_over s _ (sym e))

pub length-added : (xs ys : List Omega) → length xs ≡ length ys → length (added xs ys) ≡ length xs
length-added [] ys e = refl
length-added (x ∷ xs) [] e = sym e
length-added (x ∷ xs) (y ∷ ys) e = ap suc (length-added xs ys (omega arith))

added_at_most : (m n : ℕ) (xs ys : List Omega) → length xs ≡ length ys → All (IsAtMost m) xs → All (IsAtMost n) ys → All (IsAtMost (m + n)) (added xs ys)
added_at_most m n [] ys e h g = All-nil (IsAtMost (m + n))
added_at_most m n (x ∷ xs) [] e h g = All-nil (IsAtMost (m + n))
added_at_most m n (x ∷ xs) (y ∷ ys) e h g =
    All-cons (IsAtMost (m + n)) (sum x y) (added xs ys)
    (sum_at_most m n x y (All-head (IsAtMost m) x xs h) (All-head (IsAtMost n) y ys g))
    (added_at_most m n xs ys (omega arith) (All-tail (IsAtMost m) x xs h) (All-tail (IsAtMost n) y ys g))

none_at_most : (bits : List ℕ) → All (IsAtMost 0) (map (λ b. nothing) bits)
none_at_most [] = All-nil (IsAtMost 0)
none_at_most (b ∷ bits) = All-cons (IsAtMost 0) nothing (map (λ b. nothing) bits) (record { a = omega arith; b = omega arith; c = omega arith; d = omega arith }) (none_at_most bits)

-- how large a range's sums may be
abbrev pub range_bound : Job → ℕ
range_bound j = per_range j * (4 * (2 ^ 92 - 1))

-- the sums of the ranges below n, none of which has a path that is over
pub record IsPartial (j : Job) (n : ℕ) (s : List Omega) : Type 0 where
  pub full : length s ≡ length j.bits
  pub at_most : All (IsAtMost (n * range_bound j)) s
  pub fit : (i k : ℕ) → i < n → k < per_range j → path_fits j (first_path j i + k) ≡ true

pub partial : (j : Job) (n : ℕ) (s : List Omega) → total_of j n ≡ Sum s → IsPartial j n s
partial j zero s e =
    let same : s ≡ map (λ b. nothing) j.bits = sym (sum_same _ _ e) in
    let none : 0 ≡ zero * range_bound j = omega arith in
    record {
      full = ap (length {A = Omega}) same ∙ length-map j.bits (λ b. nothing);
      at_most = subst (λ m. All (IsAtMost m) s) none (subst (All (IsAtMost 0)) (sym same) (none_at_most j.bits));
      fit = λ i k l m. absurd (omega arith);
    }
partial j (suc n) s e =
    let m = merged_sum (total_of j n) (range_value j n) s e in
    let p = partial j n m.first m.first_is in
    let r = range_sum j n m.second m.second_is in
    let len : length m.second ≡ length j.bits = ap (length {A = Omega}) r.sums ∙ length-map j.bits _ in
    let even : length m.first ≡ length m.second = p.full ∙ sym len in
    let range_small : All (IsAtMost (range_bound j)) m.second =
    subst (All (IsAtMost (range_bound j))) (sym r.sums) (sums_at_most j (first_path j n) (per_range j) r.fit) in
    let more : n * range_bound j + range_bound j ≡ suc n * range_bound j = omega arith in
    record {
      full = ap (length {A = Omega}) m.sums ∙ length-added m.first m.second even ∙ p.full;
      at_most = subst (λ b. All (IsAtMost b) s) more
          (subst (All (IsAtMost (n * range_bound j + range_bound j))) (sym m.sums) (added_at_most (n * range_bound j) (range_bound j) m.first m.second even p.at_most range_small));
      fit = λ i k l h. elim (cases_eq i n) [
        | inl f ↦ ap (λ i. path_fits j (first_path j i + k)) f ∙ r.fit k h
        | inr ne ↦ p.fit i k (omega arith) h
      ];
    }

bounded_by : (n r b p : ℕ) → n ≤ r → r * p ≤ 2 ^ 32 → b ≡ p * (4 * (2 ^ 92 - 1)) → n * b < 2 ^ 126
bounded_by n r b p l few e =
    let m : n * p ≤ r * p = mul-le n p r p l (omega arith) in
    let s : n * b ≡ n * p * (4 * (2 ^ 92 - 1)) = ap (λ x. n * x) e ∙ omega arith in
    omega arith

pub partial_within : (j : Job) (n : ℕ) (s : List Omega) → IsJob j → n ≤ ranges j → total_of j n ≡ Sum s → All (IsWithin 126) s
partial_within j n s h l e = λ i d m.
    within_126 (n * range_bound j) _ (bounded_by n (ranges j) (range_bound j) (per_range j) l (few_run j h) refl) ((partial j n s e).at_most i d m)

-- the sums of one more range
pub total_more : (j : Job) (n : ℕ) (s t : List Omega) → total_of j n ≡ Sum s → range_value j n ≡ Sum t → total_of j (n + 1) ≡ Sum (added s t)
total_more j n s t e f =
    let next : n + 1 ≡ suc n = omega arith in
    ap (total_of j) next ∙ ap (λ v. merged v (range_value j n)) e ∙ ap (merged (Sum s)) f

pub total_none : (j : Job) → total_of j 0 ≡ Sum (map (λ b. nothing) j.bits)
total_none j = refl

pub run_is_total : (j : Job) (n : ℕ) → n ≡ ranges j → run_value j ≡ total_of j n
unfolding run_value
run_is_total j n e = ap (total_of j) (sym e)

-- ---- the first range with a path that is over has the least of the run
stands_before : (j : Job) (i k n : ℕ) → i < n → k < per_range j → first_path j i + k < first_path j n
stands_before j i k n l m = before (earlier j j.prefix) i k n (per_range j) l m
  where
    before : (e i k n p : ℕ) → i < n → k < p → (e + i) * p + k < (e + n) * p
    before e i k n p l m =
        let b : suc (e + i) * p ≤ (e + n) * p = mul-le (suc (e + i)) p (e + n) p (omega arith) (omega arith) in
        let s : suc (e + i) * p ≡ (e + i) * p + p = omega arith in
        omega arith

true_false : (b : Bool) → b ≡ true → b ≡ false → ⊥
true_false b e f = false≢true (sym f ∙ e)

module _ (j : Job) (i path : ℕ) (s : List Omega) (within : i < ranges j) (before : total_of j i ≡ Sum s) (over : range_value j i ≡ Over path) where
  here : IsOverAt j i path
  here = range_over j i path over

  in_run : IsInRun j path
  in_run = record { range = i; place = here.place; range_below = within; place_below = here.below; is = here.is }

  -- a path of the run before this one is not over
  earlier_fits : (q : ℕ) → IsInRun j q → q < path → path_fits j q ≡ true
  earlier_fits q r l = ap (path_fits j) r.is ∙ elim (cases_lt r.range i) [
    | inl b ↦ (partial j i s before).fit r.range r.place b r.place_below
    | inr a ↦ elim (cases_eq r.range i) [
      | inl e ↦ ap (λ n. path_fits j (first_path j n + r.place)) e ∙ here.before r.place (same_range (first_path j r.range) (first_path j i) q path r.place here.place (ap (first_path j) e) r.is here.is l)
      | inr ne ↦ absurd (later (first_path j i) (first_path j r.range) q path r.place here.place (stands_before j i here.place r.range (strictly r.range i a ne) here.below) r.is here.is l)
    ]
  ]
    where
      same_range : (f g q p k m : ℕ) → f ≡ g → q ≡ f + k → p ≡ g + m → q < p → k < m
      same_range f g q p k m e a b l = omega arith

      later : (g f q p k m : ℕ) → g + m < f → q ≡ f + k → p ≡ g + m → q < p → ⊥
      later g f q p k m h a b l = omega arith

      strictly : (r i : ℕ) → i ≤ r → r ≢ i → i < r
      strictly r i l ne = omega arith

  run_by : (v : Verdict) → run_value j ≡ v → v ≡ Over path
  run_by (Sum t) e = absurd (true_false _ ((names_least j).sum t e path in_run) here.fails)
  run_by (Over q) e =
      let least = (names_least j).over q e in
      elim (cases_lt q path) [
        | inl l ↦ absurd (least.over (earlier_fits q least.in_run l))
        | inr a ↦ elim (cases_eq q path) [
          | inl same ↦ ap Over same
          | inr ne ↦ absurd (true_false _ (least.least path in_run (strictly q path a ne)) here.fails)
        ]
      ]
    where
      strictly : (q p : ℕ) → p ≤ q → q ≢ p → p < q
      strictly q p l ne = omega arith

  pub run_over : run_value j ≡ Over path
  run_over = run_by (run_value j) refl
