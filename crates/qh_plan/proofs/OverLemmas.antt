-- A run names the least of its paths that is over.
use Rattle.std.proofs.Common.{◌≡◌, ℕ, zero, suc, ◌+◌, ◌*◌, ◌<◌, ◌≤◌, ◌⊎◌, inl, inr, Bool, true, false, List, Option, Some, None, arith, refl, sym, ap, subst, ◌∙◌}
use Rattle.std.specs.Prelude.{min, unwrap_or}
use Rattle.std.proofs.Math.Path.{ap₂}
use Rattle.std.proofs.Math.Nat.{min-eq_left}
use Rattle.std.proofs.lemmas.Nat.{mul-le}
use Rattle.std.proofs.lemmas.Option.{none-some}
use Rattle.std.proofs.lemmas.Bool.{cases_eq, false≢true}
use Rattle.qh_plan.specs.Jobs.{Job, per_range, ranges, earlier, first_path}
use Rattle.qh_plan.specs.declared.verdict.Verdict.{Verdict}
use Rattle.qh_plan.specs.declared.verdict.Verdict.TheVariants.{Sum, Over}
use Rattle.qh_plan.specs.Verdicts.{merged, total_below}
use Rattle.qh_plan.specs.MeaningLimits.{path_fits}
use Rattle.qh_plan.specs.Values.{or_here, first_failing, over_or_sum, first_over, sums_of, value_of, range_value, run_value}
use Rattle.qh_plan.specs.Laws.{NamesLeast}
use Rattle.qh_plan.proofs.RunValueLemmas.{first_failing_none}

-- ---- the first number that fails a test
here_some : (o : Option ℕ) (passes : Bool) (n k : ℕ) → or_here o passes n ≡ Some k → (o ≡ Some k) ⊎ ((o ≡ None) × (passes ≡ false) × (n ≡ k))
here_some (Some i) passes n k e = inl e
here_some None true n k e = absurd (none-some k e)
here_some None false n k e = inr (refl, refl, ap (λ o. unwrap_or o 0) e)

here_none : (o : Option ℕ) (passes : Bool) (n : ℕ) → or_here o passes n ≡ None → (o ≡ None) × (passes ≡ true)
here_none (Some i) passes n e = absurd (none-some i (sym e))
here_none None true n e = (refl, refl)
here_none None false n e = absurd (none-some n (sym e))

pub failing_none : (n : ℕ) (test : ℕ → Bool) → first_failing n test ≡ None → (k : ℕ) → k < n → test k ≡ true
failing_none zero test e k l = absurd (omega arith)
failing_none (suc n) test e k l =
    let h = here_none (first_failing n test) (test n) n e in
    elim (cases_eq k n) [ inl s ↦ ap test s ∙ h.1 | inr ne ↦ failing_none n test h.0 k (omega arith) ]

pub record IsFirstFailing (n : ℕ) (test : ℕ → Bool) (k : ℕ) : Type 0 where
  pub below : k < n
  pub fails : test k ≡ false
  pub first : (i : ℕ) → i < k → test i ≡ true

pub failing_some : (n : ℕ) (test : ℕ → Bool) (k : ℕ) → first_failing n test ≡ Some k → IsFirstFailing n test k
failing_some zero test k e = absurd (none-some k e)
failing_some (suc n) test k e = elim (here_some (first_failing n test) (test n) n k e) [
  | inl s ↦ let i = failing_some n test k s in record { below = let b = i.below in omega arith; fails = i.fails; first = i.first }
  | inr s ↦ record {
    below = let same : n ≡ k = s.2 in omega arith;
    fails = ap test (sym s.2) ∙ s.1;
    first = λ i l. failing_none n test s.0 i (let same : n ≡ k = s.2 in omega arith);
  }
]

pub first_failing_some : (n k : ℕ) (test : ℕ → Bool) → k < n → ((i : ℕ) → i < k → test i ≡ true) → test k ≡ false → first_failing n test ≡ Some k
first_failing_some zero k test l h e = absurd (omega arith)
first_failing_some (suc n) k test l h e = elim (cases_eq k n) [
  | inl s ↦ ap₂ (λ o t. or_here o t n) (first_failing_none n test (λ i b. h i (omega arith))) (ap test (sym s) ∙ e) ∙ ap Some (sym s)
  | inr ne ↦ ap (λ o. or_here o (test n) n) (first_failing_some n k test (omega arith) h e)
]

-- paths of which one is over, and none before it, answer with it
pub value_over : (j : Job) (first count k : ℕ) → k < count → ((i : ℕ) → i < k → path_fits j (first + i) ≡ true) → path_fits j (first + k) ≡ false
    → value_of j first count ≡ Over (first + k)
value_over j first count k l h e =
    ap (λ o. over_or_sum first o (sums_of j first count)) (first_failing_some count k (λ i. path_fits j (first + i)) l h e)

-- ---- what a range says of its paths
module _ (j : Job) where
  -- of the paths of range n
  Tells : ℕ → Verdict → Type 0
  Tells n (Sum sums) = (k : ℕ) → k < per_range j → path_fits j (first_path j n + k) ≡ true
  Tells n (Over path) = (k : ℕ) × (k < per_range j) × (path ≡ first_path j n + k) × (path_fits j path ≡ false)
      × ((i : ℕ) → i < k → path_fits j (first_path j n + i) ≡ true)

  tells_option : (n : ℕ) (o : Option ℕ) → first_over j (first_path j n) (per_range j) ≡ o → Tells n (over_or_sum (first_path j n) o (sums_of j (first_path j n) (per_range j)))
  unfolding Tells
  tells_option n None e = failing_none (per_range j) (λ k. path_fits j (first_path j n + k)) e
  tells_option n (Some k) e =
      let f = failing_some (per_range j) (λ k. path_fits j (first_path j n + k)) k e in
      (k, f.below, refl, f.fails, f.first)

  tells_range : (n : ℕ) → Tells n (range_value j n)
  unfolding range_value
  tells_range n = tells_option n (first_over j (first_path j n) (per_range j)) refl

  -- of the paths of the ranges below n
  TellsBelow : ℕ → Verdict → Type 0
  TellsBelow n (Sum sums) = (i k : ℕ) → i < n → k < per_range j → path_fits j (first_path j i + k) ≡ true
  TellsBelow n (Over path) = (i : ℕ) × (k : ℕ) × (i < n) × (k < per_range j) × (path ≡ first_path j i + k) × (path_fits j path ≡ false)
      × ((h k : ℕ) → h < n → k < per_range j → first_path j h + k < path → path_fits j (first_path j h + k) ≡ true)

  -- the paths of a range stand before those of a later one
  stands_before : (i k n : ℕ) → i < n → k < per_range j → first_path j i + k < first_path j n
  stands_before i k n l m = before (earlier j j.prefix) i k n (per_range j) l m
    where
      before : (e i k n p : ℕ) → i < n → k < p → (e + i) * p + k < (e + n) * p
      before e i k n p l m =
          let b : suc (e + i) * p ≤ (e + n) * p = mul-le (suc (e + i)) p (e + n) p (omega arith) (omega arith) in
          let s : suc (e + i) * p ≡ (e + i) * p + p = omega arith in
          omega arith

  tells_more : (n : ℕ) (v w : Verdict) → TellsBelow n v → Tells n w → TellsBelow (suc n) (merged v w)
  unfolding Tells TellsBelow
  tells_more n (Sum s) (Sum t) h g = λ i k l m. elim (cases_eq i n) [
    | inl e ↦ ap (λ i. path_fits j (first_path j i + k)) e ∙ g k m
    | inr ne ↦ h i k (omega arith) m
  ]
  tells_more n (Sum s) (Over q) h g = (
    n,
    g.0,
    omega arith,
    g.1,
    g.2,
    g.3,
    λ i k l m b. elim (cases_eq i n) [
      | inl e ↦ ap (λ i. path_fits j (first_path j i + k)) e ∙ g.4 k (place i k e b)
      | inr ne ↦ h i k (omega arith) m
    ],
  )
    where
      place : (i k : ℕ) → i ≡ n → first_path j i + k < q → k < g.0
      place i k e b =
          let c : first_path j n + k < q = subst (λ i. first_path j i + k < q) e b in
          let same : q ≡ first_path j n + g.0 = g.2 in
          low (first_path j n) k g.0 q c same
        where
          low : (f k m q : ℕ) → f + k < q → q ≡ f + m → k < m
          low f k m q c s = omega arith
  tells_more n (Over p) (Sum t) h g = (
    h.0,
    h.1,
    let l = h.2 in omega arith,
    h.3,
    h.4,
    h.5,
    λ i k l m b. elim (cases_eq i n) [
      | inl e ↦ ap (λ i. path_fits j (first_path j i + k)) e ∙ g k m
      | inr ne ↦ h.6 i k (omega arith) m b
    ],
  )
  tells_more n (Over p) (Over q) h g = subst (λ t. TellsBelow (suc n) (Over t)) (sym (least p q early)) (
    h.0,
    h.1,
    let l = h.2 in omega arith,
    h.3,
    h.4,
    h.5,
    λ i k l m b. elim (cases_eq i n) [
      | inl e ↦ absurd (late i k e b)
      | inr ne ↦ h.6 i k (omega arith) m b
    ],
  )
    where
      before_n : p < first_path j n
      before_n = subst (λ t. t < first_path j n) (sym h.4) (stands_before h.0 h.1 n h.2 h.3)

      early : p ≤ q
      early = lower p q (first_path j n) g.0 before_n g.2
        where
          lower : (p q f k : ℕ) → p < f → q ≡ f + k → p ≤ q
          lower p q f k b s = omega arith

      least : (p q : ℕ) → p ≤ q → min p q ≡ p
      least p q l = min-eq_left l

      late : (i k : ℕ) → i ≡ n → first_path j i + k < p → ⊥
      late i k e b =
          let c : first_path j n + k < p = subst (λ i. first_path j i + k < p) e b in
          past (first_path j n) k p c before_n
        where
          past : (f k p : ℕ) → f + k < p → p < f → ⊥
          past f k p c b = omega arith

  tells_total : (bits : List ℕ) (n : ℕ) → TellsBelow n (total_below bits (λ i. Some (range_value j i)) n)
  unfolding TellsBelow
  tells_total bits zero = λ i k l. absurd (omega arith)
  tells_total bits (suc n) = tells_more n (total_below bits (λ i. Some (range_value j i)) n) (range_value j n) (tells_total bits n) (tells_range n)

  tells_run : TellsBelow (ranges j) (run_value j)
  unfolding run_value
  tells_run = tells_total j.bits (ranges j)

-- a run names the least of its paths that is over
pub names_least : (j : Job) → NamesLeast j
unfolding TellsBelow
names_least j = record {
  sum = λ sums e path r. let t = subst (TellsBelow j (ranges j)) e (tells_run j) in
      ap (path_fits j) r.is ∙ t r.range r.place r.range_below r.place_below;
  over = λ path e. let t = subst (TellsBelow j (ranges j)) e (tells_run j) in record {
    in_run = record { range = t.0; place = t.1; range_below = t.2; place_below = t.3; is = t.4 };
    over = λ f. false≢true (sym t.5 ∙ f);
    least = λ other r l. ap (path_fits j) r.is ∙ t.6 r.range r.place r.range_below r.place_below (subst (λ k. k < path) r.is l);
  };
}
