-- The digits of a path in a range: those of its prefix and of its root are the range's.
use Rattle.std.proofs.Common.{◌≡◌, ℕ, zero, suc, ◌+◌, ◌*◌, ◌/◌, ◌%◌, ◌<◌, ◌≤◌, List, [], ◌∷◌, length, take, drop, Option, Some, None, arith, sym, ap, ◌∙◌}
use Rattle.std.proofs.Math.Arith.{mod-mul}
use Rattle.std.proofs.lemmas.Nat.{div-mul-add, mod_below, div_below, mul-le}
use Rattle.std.proofs.lemmas.List.{take_at, drop_at, length-take-le}
use Rattle.qh_plan.specs.Paths.{path_digits}
use Rattle.qh_plan.specs.Jobs.{Job, IsJob, job_radices, paths, prefixes, roots, per_range, ranges_of, ranges, earlier, first_path, digits_of}
use Rattle.qh_plan.specs.Ranges.{IsInRange, prefix_of}
use Rattle.qh_plan.proofs.PathLemmas.{path_count_split, digits_split}
use Rattle.qh_plan.proofs.RunLemmas.{IsCounted, counted_by, run_fits, range_within, place_in, prefix_in}
use Rattle.qh_plan.proofs.PrefixLemmas.{length-path_digits}
use Rattle.qh_prefix.specs.declared.stage.Stage.TheVariants.{Prefix, Root}
use Rattle.qh_prefix.specs.Stages.{stretch}
use Rattle.qh_prefix.proofs.StageLemmas.{job_known, prefix_few}
use Rattle.qh_prefix.specs.Checkpoints.{prefix_digits}
use Rattle.qh_prefix.proofs.DigitLemmas.{share, some_prefix, some_share, first_digits}
use Rattle.qh_range.specs.Sides.{root_of, root_digits}

dropped : (k : ℕ) (xs : List ℕ) → k ≤ length xs → length (drop k xs) + k ≡ length xs
dropped zero xs l = omega arith
dropped (suc k) [] l = absurd (omega arith)
dropped (suc k) (x ∷ xs) l = let h = dropped k xs (omega arith) in omega arith

high : (p r n m : ℕ) → p + r ≤ n → m + p ≡ n → r ≤ m
high p r n m h e = omega arith

module _ (j : Job) (valid : IsJob j) (i k : ℕ) (within : i < ranges j) (here : IsInRange j i k) where
  counts : IsCounted j
  counts = counted_by j (job_known j valid) valid.few_paths

  pub path_below : k < paths j
  path_below =
      let w = range_within j i valid counts within in
      let b = here.below in
      omega arith

  shares : roots j * per_range j ≡ share j
  shares = path_count_split j.r (drop j.p (job_radices j))

  pub prefix_same : stretch Prefix j (digits_of j k) ≡ prefix_digits j (prefix_of j i)
  prefix_same = first_digits j valid k path_below ∙ ap (prefix_digits j) (ap (λ n. k / n) (sym shares) ∙ prefix_in j i k here)

  root_few : j.r ≤ length (drop j.p (job_radices j))
  root_few = high j.p j.r (length (job_radices j)) (length (drop j.p (job_radices j))) valid.is_split (dropped j.p (job_radices j) (prefix_few j valid))

  left_below : k % share j < share j
  left_below = mod_below k (share j) (some_share j valid)

  root_number : k % share j / per_range j ≡ root_of j i
  root_number =
      let t = roots j in
      let d = per_range j in
      let two : k % (t * d) ≡ (k / d % t) * d + k % d = mod-mul k counts.some_root counts.some_path in
      ap (λ n. k % n / d) (sym shares) ∙ ap (λ n. n / d) two ∙ div-mul-add (k / d % t) d (k % d) (mod_below k d counts.some_path)
      ∙ ap (λ n. n % t) (place_in j i k here)

  after_prefix : drop j.p (digits_of j k) ≡ path_digits (drop j.p (job_radices j)) (k % share j)
  after_prefix =
      ap (drop j.p) (digits_split j.p (job_radices j) k (some_prefix j valid) (some_share j valid) path_below)
      ∙ drop_at (path_digits (take j.p (job_radices j)) (k / share j)) (path_digits (drop j.p (job_radices j)) (k % share j)) j.p
      (length-path_digits (take j.p (job_radices j)) (k / share j) ∙ length-take-le j.p (job_radices j) (prefix_few j valid))

  pub root_same : stretch Root j (digits_of j k) ≡ root_digits j i
  root_same =
      let rest = drop j.p (job_radices j) in
      let q = k % share j in
      ap (take j.r) (after_prefix ∙ digits_split j.r rest q counts.some_root counts.some_path left_below)
      ∙ take_at (path_digits (take j.r rest) (q / per_range j)) (path_digits (drop j.r rest) (q % per_range j)) j.r
      (length-path_digits (take j.r rest) (q / per_range j) ∙ length-take-le j.r rest root_few)
      ∙ ap (path_digits (take j.r rest)) root_number

-- ---- the prefix value of a range is one of the job
module _ (j : Job) (valid : IsJob j) where
  counted_job : IsCounted j
  counted_job = counted_by j (job_known j valid) valid.few_paths

  pub prefix_within : (i : ℕ) → i < ranges j → prefix_of j i < prefixes j
  prefix_within i l =
      let f = run_fits j valid in
      div_below (earlier j j.prefix + i) (roots j) (prefixes j) counted_job.some_root (omega arith)

  some_at : (o : Option ℕ) → 0 < ranges_of j o
  some_at None = let m = mul-le 1 1 (prefixes j) (roots j) counted_job.some_prefix counted_job.some_root in omega arith
  some_at (Some w) = counted_job.some_root

  pub some_range : 0 < ranges j
  some_range = some_at j.prefix

  pub first_in_range : (i : ℕ) → IsInRange j i (first_path j i)
  first_in_range i = let s = counted_job.some_path in record { from = omega arith; below = omega arith }
