-- A range, path by path.
use Rattle.std.proofs.Common.{◌≡◌, ℕ, suc, ◌+◌, ◌*◌, ◌^◌, ◌<◌, ◌≤◌, inl, inr, true, false, List, [], ◌∷◌, ◌++◌, length, map, replicate, take, drop, arith, refl, sym, ap, subst, ◌∙◌}
use Rattle.std.specs.List.{All}
use Rattle.std.proofs.lemmas.List.{length-map, take_at}
use Rattle.std.proofs.lemmas.Bool.{cases_eq}
use Rattle.qh_ring.specs.declared.number.Omega.{Omega}
use Rattle.qh_ring.specs.Numbers.{nothing, IsWithin}
use Rattle.qh_ring.specs.States.{sum_below}
use Rattle.qh_plan.specs.declared.verdict.Verdict.TheVariants.{Sum, Over}
use Rattle.qh_plan.specs.Jobs.{Job, per_range, first_path}
use Rattle.qh_plan.specs.Verdicts.{added}
use Rattle.qh_plan.specs.Halves.{contribution}
use Rattle.qh_plan.specs.MeaningLimits.{path_fits}
use Rattle.qh_plan.specs.Values.{sums_of, value_of, range_value}
use Rattle.qh_plan.proofs.RunValueLemmas.{added_map, sums_within, value_sum}
use Rattle.qh_plan.proofs.OverLemmas.{value_over}

-- the first k paths from `first` on fit, and these are their sums
pub record IsSummed (j : Job) (first k : ℕ) (sums : List Omega) : Type 0 where
  pub fits : (i : ℕ) → i < k → path_fits j (first + i) ≡ true
  pub are : sums ≡ sums_of j first k

nothing_each : (bits : List ℕ) → replicate (length bits) nothing ≡ map (λ b. nothing) bits
nothing_each [] = refl
nothing_each (b ∷ bits) = ap (λ t. nothing ∷ t) (nothing_each bits)

pub summed_none : (j : Job) (first : ℕ) (sums : List Omega) → sums ≡ replicate (length j.bits) nothing → IsSummed j first 0 sums
summed_none j first sums e = record { fits = λ i l. absurd (omega arith); are = e ∙ nothing_each j.bits }

pub summed_more : (j : Job) (first k : ℕ) (sums new : List Omega) → IsSummed j first k sums → path_fits j (first + k) ≡ true
    → new ≡ added sums (map (contribution j (first + k)) j.bits) → IsSummed j first (k + 1) new
summed_more j first k sums new h t e = record {
  fits = λ i l. elim (cases_eq i k) [
    | inl s ↦ ap (λ n. path_fits j (first + n)) s ∙ t
    | inr ne ↦ h.fits i (omega arith)
  ];
  are = let n : suc k ≡ k + 1 = omega arith in
      e ∙ ap (λ s. added s (map (contribution j (first + k)) j.bits)) h.are
      ∙ added_map j.bits (λ b. sum_below k (λ i. contribution j (first + i) b)) (contribution j (first + k))
      ∙ ap (λ n. sums_of j first n) n;
}

pub summed_length : (j : Job) (first k : ℕ) (sums : List Omega) → IsSummed j first k sums → length sums ≡ length j.bits
summed_length j first k sums h = ap length h.are ∙ length-map j.bits (λ b. sum_below k (λ i. contribution j (first + i) b))

pub summed_within : (j : Job) (first k : ℕ) (sums : List Omega) → k ≤ 2 ^ 32 → IsSummed j first k sums → All (IsWithin 126) sums
summed_within j first k sums l h = subst (λ (v : List Omega). All (IsWithin 126) v) (sym h.are) (sums_within j first k l h.fits)

-- a `Vec` whose slice was written whole
pub written_whole : (n : ℕ) (xs ys : List Omega) → n ≡ length ys → length xs ≡ length ys → take n (xs ++ drop (length xs) ys) ≡ xs
written_whole n xs ys e f = take_at xs (drop (length xs) ys) n (len n xs ys e f)
  where
    len : (n : ℕ) (xs ys : List Omega) → n ≡ length ys → length xs ≡ length ys → length xs ≡ n
    len n xs ys e f = omega arith

-- the first path that does not fit is the range's value, and else the sums are
pub range_over : (j : Job) (range first k count : ℕ) (sums : List Omega) → first ≡ first_path j range → count ≡ per_range j → k < count → IsSummed j first k sums
    → path_fits j (first + k) ≡ false → Over (first + k) ≡ range_value j range
unfolding range_value
range_over j range first k count sums e f l h o =
    sym (value_over j first count k l h.fits o) ∙ ap (λ first. value_of j first count) e ∙ ap (value_of j (first_path j range)) f

pub range_sum : (j : Job) (range first k count : ℕ) (sums : List Omega) → first ≡ first_path j range → count ≡ per_range j → k ≡ count → IsSummed j first k sums
    → Sum sums ≡ range_value j range
unfolding range_value
range_sum j range first k count sums e f s h =
    ap Sum h.are ∙ sym (value_sum j first k h.fits) ∙ ap (λ first. value_of j first k) e ∙ ap (value_of j (first_path j range)) (s ∙ f)

-- ---- the steps of k + 1 paths
pub steps_more : (k each start before now : ℕ) → before ≤ start + k * each → now ≤ before + each → now ≤ start + (k + 1) * each
steps_more k each start before now b n =
    let e : (k + 1) * each ≡ k * each + each = next k each in omega arith
  where
    next : (k each : ℕ) → (k + 1) * each ≡ k * each + each
    next k each = omega arith

-- those of a root and its suffixes, and of a prefix before them
pub steps_after : (start root few more now : ℕ) → root ≡ start + few → now ≤ root + more → now ≤ start + (few + more)
steps_after start root few more now e l = omega arith

pub steps_within : (start root few more now : ℕ) → root ≤ start + few → now ≤ root + more → now ≤ start + (few + more)
steps_within start root few more now h l = omega arith
