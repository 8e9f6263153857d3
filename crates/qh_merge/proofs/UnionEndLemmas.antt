-- What all inputs together answer.
use Rattle.std.proofs.Common.{◌≡◌, ◌≢◌, inl, inr, ℕ, zero, suc, ◌*◌, ◌^◌, ◌<◌, ◌≤◌, Bool, List, [], ◌∷◌, length, get_or, Option, Some, None, arith, refl, sym, ap, subst, ◌∙◌}
use Rattle.std.specs.Prelude.{IsSome, if◌then◌else◌}
use Rattle.std.specs.List.{All}
use Rattle.std.proofs.Math.Path.{ap₂}
use Rattle.std.proofs.lemmas.Bool.{cases_lt, eq-eqb}
use Rattle.std.proofs.lemmas.Option.{none-some}
use Rattle.qh_ring.specs.declared.number.Omega.{Omega}
use Rattle.qh_ring.specs.Numbers.{IsWithin}
use Rattle.qh_plan.specs.declared.verdict.Verdict.TheVariants.{Sum, Over}
use Rattle.qh_plan.specs.Jobs.{Job, IsJob, prefixes, roots}
use Rattle.qh_plan.proofs.PlanLemmas.{counted_job}
use Rattle.qh_plan.specs.Slots.{over_or}
use Rattle.qh_plan.proofs.SlotLemmas.{parted}
use Rattle.qh_disk.specs.Disk.{Face}
use Rattle.qh_merge.specs.declared.merging.Merged.{Merged}
use Rattle.qh_merge.specs.declared.merging.Merged.TheVariants.{Lines, Overflow}
use Rattle.qh_merge.specs.Inputs.{Input}
use Rattle.qh_merge.specs.Union.{AreTaken, elder, family, first_with, is_value, union_slots, union_total, whole}
use Rattle.qh_merge.specs.Gathered.{IsGathered, IsKept, OfFamily, State, prefixes_of}
use Rattle.qh_merge.specs.Merging.{IsAnswer, IsFamily, IsMerged, IsMissing, LacksPrefix}
use Rattle.qh_merge.specs.Parts.{IsAnswered, IsProgress, IsSound}
use Rattle.qh_merge.proofs.BoundLemmas.{sums_within}
use Rattle.qh_merge.proofs.GatherLemmas.{length_sums}
use Rattle.qh_merge.proofs.PlaceLemmas.{early_prefix, is_of, last_prefix, length_prefixes, none_kept}
use Rattle.qh_merge.proofs.UnionLemmas.{full_of}

-- ---- the family
pub family_on : (j : Job) (x : Input) (earlier : List Input) → OfFamily j earlier → 0 < length earlier → family x earlier ≡ j
family_on j x [] of low = absurd (omega arith)
family_on j x (y ∷ earlier) of low = of

is_family : (j : Job) (inputs : List Input) → OfFamily j inputs → 0 < length inputs → IsFamily j inputs
is_family j [] of low = absurd (omega arith)
is_family j (x ∷ earlier) of low = of

-- ---- which prefix values have an input
elder_none_left : (o t : Option Input) → elder o t ≡ None → o ≡ None
elder_none_left None t e = refl
elder_none_left (Some y) t e = absurd (none-some y (sym e))

elder_none_right : (o t : Option Input) → elder o t ≡ None → t ≡ None
elder_none_right None t e = e
elder_none_right (Some y) t e = absurd (none-some y (sym e))

kept_none : (w : ℕ) (inputs : List Input) → AreTaken inputs → first_with w inputs ≡ None → (q : ℕ) → q < length inputs → get_or (prefixes_of inputs) q 0 ≢ w
kept_none w [] taken none q low e = absurd (omega arith)
kept_none w (x ∷ earlier) taken none q low e = elim (cases_lt q (length earlier)) [
  | inl l ↦ kept_none w earlier taken.1 (elder_none_left (first_with w earlier) _ none) q l (sym (early_prefix x earlier q l) ∙ e)
  | inr g ↦
      let last : q ≡ length earlier = omega arith in
      let here : x.job.prefix ≡ Some w = is_of x.job.prefix w taken.0.prefix (sym (last_prefix x earlier) ∙ ap (λ (n : ℕ). get_or (prefixes_of (x ∷ earlier)) n 0) (sym last) ∙ e) in
      none-some x (sym (elder_none_right (first_with w earlier) (if is_value w x.job.prefix then Some x else None) none) ∙ ap (λ (b : Bool). if b then Some x else None) (ap (is_value w) here ∙ eq-eqb w w refl))
]

kept_some : (w : ℕ) (inputs : List Input) → AreTaken inputs → IsKept w (prefixes_of inputs) → IsSome (first_with w inputs)
kept_some w inputs taken kept = by_first (first_with w inputs) refl
  where
    by_first : (o : Option Input) → first_with w inputs ≡ o → IsSome o
    by_first None e = absurd (kept_none w inputs taken e kept.place (let i = kept.inside in let l = length_prefixes inputs in omega arith) kept.is)
    by_first (Some y) e = refl

-- ---- a missing prefix value
is_missing : (j : Job) (w : ℕ) (inputs : List Input) → OfFamily j inputs → 0 < length inputs → AreTaken inputs → w < prefixes j → ((q : ℕ) → q < length (prefixes_of inputs) → get_or (prefixes_of inputs) q 0 ≢ w)
    → ((v : ℕ) → v < w → IsKept v (prefixes_of inputs)) → IsMissing w inputs
is_missing j w [] of low taken below none least = absurd (omega arith)
is_missing j w (x ∷ earlier) of low taken below none least = (
  subst (λ (k : Job). w < prefixes k) (sym of) below,
  none_kept w (x ∷ earlier) taken (λ q l. none q (let n = length_prefixes (x ∷ earlier) in omega arith)),
  λ v l. kept_some v (x ∷ earlier) taken (least v l),
)

pub lacks : {D : Type 0} (face : D → Face) (ds : List D) (w : ℕ) (s : State) → IsProgress face ds (length ds) s → 0 < length ds → w < prefixes s.job
    → ((q : ℕ) → q < length s.prefixes → get_or s.prefixes q 0 ≢ w) → ((v : ℕ) → v < w → IsKept v s.prefixes) → LacksPrefix face ds w
lacks face ds w s p some below none least =
    let kept = p.kept in
    let e = kept.prefixes in
    record {
      inputs = p.inputs;
      all = p.good;
      missing = is_missing s.job w p.inputs kept.family (let c = p.good.count in omega arith) p.good.taken below
          (λ q l. subst (λ (ps : List ℕ). get_or ps q 0 ≢ w) e (none q (subst (λ (ps : List ℕ). q < length ps) (sym e) l)))
          (λ v l. subst (IsKept v) e (least v l));
    }

-- ---- the answer
over_is : (s : State) (path : ℕ) → s.over ≡ Some path → over_or s.over s.sums ≡ Over path
over_is s path e = ap (λ (o : Option ℕ). over_or o s.sums) e

sum_is : (s : State) → s.over ≡ None → over_or s.over s.sums ≡ Sum s.sums
sum_is s e = ap (λ (o : Option ℕ). over_or o s.sums) e

total_is : (inputs : List Input) (s : State) → IsGathered inputs s → union_total s.job inputs ≡ over_or s.over s.sums
total_is inputs s kept = parted (whole s.job) (union_slots s.job inputs) (full_of (whole s.job) (union_slots s.job inputs) kept.fit) ∙ ap₂ over_or (sym kept.over) (sym kept.sums)

answer_is : (inputs : List Input) (s : State) (m : Merged) → IsGathered inputs s → IsAnswered s m → IsAnswer s.job inputs m
answer_is inputs s (Lines text) kept is = (s.sums, total_is inputs s kept ∙ sum_is s is.0, is.1)
answer_is inputs s (Overflow path) kept is = total_is inputs s kept ∙ over_is s path is

pub sound : (inputs : List Input) (s : State) → IsGathered inputs s → IsSound s
sound inputs s kept = record {
  valid = kept.valid;
  even = ap (λ (z : List Omega). length z) kept.sums ∙ length_sums s.job (union_slots s.job inputs);
  within = subst (All (IsWithin 126)) (sym kept.sums) (sums_within s.job (union_slots s.job inputs) kept.valid kept.fit);
}

pub is_merged : {D : Type 0} (face : D → Face) (ds : List D) (s : State) (m : Merged) → IsProgress face ds (length ds) s → 0 < length ds
    → ((v : ℕ) → v < prefixes s.job → IsKept v s.prefixes) → IsAnswered s m → IsMerged face ds m
is_merged face ds s m p some complete is = record {
  job = s.job;
  inputs = p.inputs;
  all = p.good;
  family = is_family s.job p.inputs p.kept.family (let c = p.good.count in omega arith);
  complete = λ v l. kept_some v p.inputs p.good.taken (subst (IsKept v) p.kept.prefixes (complete v l));
  is = answer_is p.inputs s m p.kept is;
}

-- ---- how many prefix values there are
pub few_prefixes : (j : Job) → IsJob j → prefixes j ≤ 2 ^ 32
few_prefixes j h = let k = counted_job j h in by_roots (prefixes j) (roots j) (2 ^ 32) k.some_root k.pairs_few
  where
    by_roots : (p r n : ℕ) → 0 < r → p * r ≤ n → p ≤ n
    by_roots p zero n some le = absurd (omega arith)
    by_roots p (suc r) n some le = omega arith
