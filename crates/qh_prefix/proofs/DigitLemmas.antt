-- The digits of a prefix value are the first of those of each of its paths.
use Rattle.std.proofs.Common.{◌≡◌, ℕ, zero, suc, ◌+◌, ◌*◌, ◌/◌, ◌%◌, ◌^◌, ◌<◌, ◌≤◌, List, ◌++◌, length, take, drop, arith, refl, sym, ap, subst, ◌∙◌}
use Rattle.std.proofs.lemmas.Nat.{mul-le, div-mul-add}
use Rattle.std.proofs.lemmas.List.{take_at, length-take-le}
use Rattle.std.proofs.lemmas.List.Elements.{All-take, All-drop}
use Rattle.qh_plan.specs.Paths.{path_count, path_digits}
use Rattle.qh_plan.specs.Plans.{IsRadix}
use Rattle.qh_plan.specs.Jobs.{Job, IsJob, job_radices, prefixes, paths, digits_of}
use Rattle.qh_plan.proofs.PathLemmas.{path_count_split, digits_split}
use Rattle.qh_plan.proofs.DigitLemmas.{count_positive}
use Rattle.qh_plan.proofs.PrefixLemmas.{length-path_digits}
use Rattle.qh_prefix.proofs.StageLemmas.{job_known, prefix_few}
use Rattle.qh_prefix.specs.Checkpoints.{prefix_digits}

-- how many paths each prefix value has
abbrev pub share : Job → ℕ
share j = path_count (drop j.p (job_radices j))

module _ (j : Job) (valid : IsJob j) where
  pub some_prefix : 0 < prefixes j
  some_prefix = count_positive (take j.p (job_radices j)) (All-take IsRadix j.p (job_radices j) (job_known j valid))

  pub some_share : 0 < share j
  some_share = count_positive (drop j.p (job_radices j)) (All-drop IsRadix j.p (job_radices j) (job_known j valid))

  pub shares : prefixes j * share j ≡ paths j
  shares = path_count_split j.p (job_radices j)

  pub share_is : paths j / prefixes j ≡ share j
  share_is =
      let e : paths j ≡ share j * prefixes j + 0 = sym shares ∙ omega arith in
      ap (λ n. n / prefixes j) e ∙ div-mul-add (share j) (prefixes j) 0 some_prefix

  pub path_below : (w : ℕ) → w < prefixes j → w * share j < paths j
  path_below w l =
      let m = mul-le (suc w) (share j) (prefixes j) (share j) (omega arith) (omega arith) in
      let s = some_share in
      let e = shares in
      let n : suc w * share j ≡ w * share j + share j = omega arith in
      omega arith

  -- the first digits of any path have the quotient as their number
  pub first_digits : (k : ℕ) → k < paths j → take j.p (digits_of j k) ≡ prefix_digits j (k / share j)
  first_digits k l =
      ap (take j.p) (digits_split j.p (job_radices j) k some_prefix some_share l)
      ∙ take_at (path_digits (take j.p (job_radices j)) (k / share j)) (path_digits (drop j.p (job_radices j)) (k % share j)) j.p
      (length-path_digits (take j.p (job_radices j)) (k / share j) ∙ length-take-le j.p (job_radices j) (prefix_few j valid))

  pub first_of_prefix : (w : ℕ) → w < prefixes j → take j.p (digits_of j (w * share j)) ≡ prefix_digits j w
  first_of_prefix w l =
      let z : w * share j ≡ w * share j + 0 = omega arith in
      first_digits (w * share j) (path_below w l)
      ∙ ap (prefix_digits j) (ap (λ n. n / share j) z ∙ div-mul-add w (share j) 0 some_share)
