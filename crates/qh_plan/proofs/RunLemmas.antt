-- The ranges of a run.
use Rattle.std.proofs.Common.{◌≡◌, ℕ, ◌+◌, ◌-◌, ◌*◌, ◌/◌, ◌^◌, ◌<◌, ◌≤◌, take, drop, Option, Some, None, arith, refl, sym, ap, subst, ◌∙◌, All}
use Rattle.std.proofs.Math.Nat.{mul_assoc, mul_comm, mul-one, div-div-eq-div-mul}
use Rattle.std.specs.Option.{ForSome}
use Rattle.std.proofs.lemmas.Nat.{mul-le, row_fits, div-mul-add, div-add-mod', mod_below, div_below}
use Rattle.std.proofs.lemmas.List.Elements.{All-take, All-drop}
use Rattle.qh_plan.specs.Jobs.{Job, IsJob, job_radices, paths, prefixes, roots, per_range, ranges_of, ranges, earlier, first_path}
use Rattle.qh_plan.specs.Plans.{IsRadix, IsKept, Kept, range_count}
use Rattle.qh_plan.specs.Ranges.{IsInRange, IsOfRun, prefix_of}
use Rattle.qh_plan.proofs.PathLemmas.{path_count_split}
use Rattle.qh_plan.proofs.DigitLemmas.{count_positive, back_le}

pub some_number : (w v : ℕ) → ◌≡◌ {A = Option ℕ} (Some w) (Some v) → w ≡ v
some_number w v e = cc

pub none_number : (v : ℕ) → ◌≡◌ {A = Option ℕ} None (Some v) → ⊥
none_number v e = (cc)

-- ---- the counts of a job with known radices

pub record IsCounted (j : Job) : Type 0 where
  pub product : (prefixes j * roots j) * per_range j ≡ paths j
  pub few : paths j ≤ 2 ^ 32
  pub pairs_few : prefixes j * roots j ≤ 2 ^ 32
  pub some_prefix : 0 < prefixes j
  pub some_root : 0 < roots j
  pub some_path : 0 < per_range j
  pub few_in_range : per_range j ≤ 2 ^ 32

pub counted_by : (j : Job) → All IsRadix (job_radices j) → paths j ≤ 2 ^ 32 → IsCounted j
counted_by j known few =
    let rs = job_radices j in
    let rest = drop j.p rs in
    let known_rest : All IsRadix rest = All-drop IsRadix j.p rs known in
    let a = count_positive (take j.p rs) (All-take IsRadix j.p rs known) in
    let b = count_positive (take j.r rest) (All-take IsRadix j.r rest known_rest) in
    let n = count_positive (drop j.r rest) (All-drop IsRadix j.r rest known_rest) in
    let e : (prefixes j * roots j) * per_range j ≡ paths j =
    mul_assoc (prefixes j) (roots j) (per_range j) ∙ ap (λ k. prefixes j * k) (path_count_split j.r rest) ∙ path_count_split j.p rs in
    let pairs = mul-le (prefixes j * roots j) 1 (prefixes j * roots j) (per_range j) (omega arith) (omega arith) in
    record {
      product = e;
      few = few;
      pairs_few = omega (arith, mul-one (prefixes j * roots j));
      some_prefix = a;
      some_root = b;
      some_path = n;
      few_in_range = let h = back_le j.r rest known_rest b in let g = back_le j.p rs known a in omega arith;
    }

pub counted : (j : Job) (k : Kept) → IsKept j k → IsCounted j
counted j k h = counted_by j (subst (All IsRadix) h.radices_are h.known) h.planned.valid.few_paths

-- ---- the ranges among all pairs of a prefix and a root

pub ranges_are : (j : Job) → range_count (prefixes j) (roots j) j.prefix ≡ ranges j
ranges_are j = by_prefix j.prefix
  where
    by_prefix : (o : Option ℕ) → range_count (prefixes j) (roots j) o ≡ ranges_of j o
    by_prefix None = refl
    by_prefix (Some w) = refl

run_fits_at : (j : Job) (o : Option ℕ) → ForSome o (λ w. w < prefixes j) → earlier j o + ranges_of j o ≤ prefixes j * roots j
run_fits_at j None h = omega arith
run_fits_at j (Some w) h = row_fits w (roots j) (prefixes j) (roots j) (h w refl) (omega arith)

pub run_fits : (j : Job) → IsJob j → earlier j j.prefix + ranges j ≤ prefixes j * roots j
run_fits j h = run_fits_at j j.prefix h.has_prefix

-- the ranges of a run hold at most the paths of the circuit
pub few_in_run : (j : Job) → IsJob j → IsCounted j → ranges j * per_range j ≤ 2 ^ 32
few_in_run j h k =
    let f = run_fits j h in
    let m = mul-le (ranges j) (per_range j) (prefixes j * roots j) (per_range j) (omega arith) (omega arith) in
    omega (arith, k.product, k.few)

-- the paths of a range are paths of the circuit
pub range_within : (j : Job) (i : ℕ) → IsJob j → IsCounted j → i < ranges j → first_path j i + per_range j ≤ paths j
range_within j i h k l =
    let f = run_fits j h in
    let m = row_fits (earlier j j.prefix + i) (per_range j) (prefixes j * roots j) (per_range j) (omega arith) (omega arith) in
    omega (arith, k.product)

-- ---- the range of a path

pub place_in : (j : Job) (i path : ℕ) → IsInRange j i path → path / per_range j ≡ earlier j j.prefix + i
place_in j i path h =
    let n = per_range j in
    let first = (earlier j j.prefix + i) * n in
    let from = h.from in
    let below = h.below in
    let e : path ≡ first + (path - first) = omega arith in
    ap (λ k. k / n) e ∙ div-mul-add (earlier j j.prefix + i) n (path - first) (omega arith)

pub in_place : (j : Job) (i path : ℕ) → 0 < per_range j → path / per_range j ≡ earlier j j.prefix + i → IsInRange j i path
in_place j i path some e =
    let n = per_range j in
    let s = div-add-mod' path n in
    let m = mod_below path n some in
    let f : path / n * n ≡ first_path j i = ap (λ k. k * n) e in
    record { from = omega arith; below = omega arith }

pub prefix_in : (j : Job) (i path : ℕ) → IsInRange j i path → path / (roots j * per_range j) ≡ prefix_of j i
prefix_in j i path h =
    ap (λ k. path / k) (mul_comm (roots j) (per_range j)) ∙ sym (div-div-eq-div-mul path (per_range j) (roots j)) ∙ ap (λ k. k / roots j) (place_in j i path h)

under_at : (j : Job) (o : Option ℕ) (place : ℕ) → ForSome o (λ w. place / roots j ≡ w) → place < prefixes j * roots j → 0 < roots j
    → (earlier j o ≤ place) × (place - earlier j o < ranges_of j o)
under_at j None place h l p = (omega arith, omega arith)
under_at j (Some w) place h l p =
    let r = roots j in
    let e : place / r ≡ w = h w refl in
    let s = div-add-mod' place r in
    let m = mod_below place r p in
    let f : place / r * r ≡ w * r = ap (λ k. k * r) e in
    (omega arith, omega arith)

over_at : (j : Job) (o : Option ℕ) (place : ℕ) → earlier j o ≤ place → place - earlier j o < ranges_of j o → ForSome o (λ w. place / roots j ≡ w)
over_at j None place l m = λ v e. absurd (none_number v e)
over_at j (Some w) place l m = λ v e.
    let r = roots j in
    let s : place ≡ w * r + (place - w * r) = omega arith in
    ap (λ k. k / r) s ∙ div-mul-add w r (place - w * r) (omega arith) ∙ some_number w v e

quotients : (j : Job) (path : ℕ) → path / (roots j * per_range j) ≡ path / per_range j / roots j
quotients j path = ap (λ k. path / k) (mul_comm (roots j) (per_range j)) ∙ sym (div-div-eq-div-mul path (per_range j) (roots j))

-- a path of the run stands in one of its ranges
pub place_of_run : (j : Job) (path : ℕ) → IsCounted j → IsOfRun j path
    → (earlier j j.prefix ≤ path / per_range j) × (path / per_range j - earlier j j.prefix < ranges j)
place_of_run j path k h =
    under_at j j.prefix (path / per_range j) (λ w e. sym (quotients j path) ∙ h.under w e)
    (div_below path (per_range j) (prefixes j * roots j) k.some_path (let b = h.below in omega (arith, k.product))) k.some_root

-- what stands in a range is a path of the run
pub run_of_range : (j : Job) (i path : ℕ) → IsJob j → IsCounted j → i < ranges j → IsInRange j i path → IsOfRun j path
run_of_range j i path h k l r =
    let e = place_in j i path r in
    let w = range_within j i h k l in
    let b = r.below in
    record {
      below = omega arith;
      under = λ v f. quotients j path ∙ over_at j j.prefix (path / per_range j) (omega arith) (omega arith) v f;
    }
