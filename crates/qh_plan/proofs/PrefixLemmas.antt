-- The prefix of a path: its first p digits have the quotient of its number.
use Rattle.std.proofs.Common.{◌≡◌, ℕ, zero, suc, ◌+◌, ◌*◌, ◌/◌, ◌%◌, ◌<◌, ◌≤◌, List, [], ◌∷◌, length, take, drop, arith, refl, sym, ap, subst, ◌∙◌}
use Rattle.std.proofs.Math.Nat.{mul_comm}
use Rattle.std.proofs.lemmas.Nat.{mod_below, div_below, div-add-mod'}
use Rattle.std.proofs.lemmas.List.{take_at, length-take-le}
use Rattle.qh_plan.specs.Paths.{path_count, path_number, path_digits}
use Rattle.qh_plan.specs.Jobs.{Job, IsJob, job_radices, paths, digits_of}
use Rattle.qh_plan.proofs.PathLemmas.{path_count_split, digits_split}
use Rattle.qh_plan.specs.Asked.{paths_per_prefix}

-- a digit for each radix
pub length-path_digits : (rs : List ℕ) (k : ℕ) → length (path_digits rs k) ≡ length rs
length-path_digits [] k = refl
length-path_digits (r ∷ rs) k = ap suc (length-path_digits rs (k % path_count rs))

factor_positive : (r c k : ℕ) → k < r * c → 0 < c
factor_positive r zero k l = absurd (omega arith)
factor_positive r (suc c) k l = omega arith

pub number_of_digits : (rs : List ℕ) (k : ℕ) → k < path_count rs → path_number rs (path_digits rs k) ≡ k
number_of_digits [] k l = omega arith
number_of_digits (r ∷ rs) k l =
    let c : 0 < path_count rs = factor_positive r (path_count rs) k l in
    let i : path_number rs (path_digits rs (k % path_count rs)) ≡ k % path_count rs = number_of_digits rs (k % path_count rs) (mod_below k (path_count rs) c) in
    rw i (div-add-mod' k (path_count rs))

-- the number of the first p digits
pub prefix_number : (p : ℕ) (rs : List ℕ) (k : ℕ) → p ≤ length rs → k < path_count rs
    → path_number (take p rs) (take p (path_digits rs k)) ≡ k / path_count (drop p rs)
prefix_number p rs k h l =
    let t = path_count (take p rs) in
    let d = path_count (drop p rs) in
    let below : k < t * d = subst (λ n. k < n) (sym (path_count_split p rs)) l in
    let d_pos : 0 < d = factor_positive t d k below in
    let t_pos : 0 < t = factor_positive d t k (subst (λ n. k < n) (mul_comm t d) below) in
    let quotient : k / d < t = div_below k d t d_pos below in
    ap (λ ds. path_number (take p rs) (take p ds)) (digits_split p rs k t_pos d_pos l)
    ∙ ap (path_number (take p rs)) (take_at (path_digits (take p rs) (k / d)) (path_digits (drop p rs) (k % d)) p
    (length-path_digits (take p rs) (k / d) ∙ length-take-le p rs h))
    ∙ number_of_digits (take p rs) (k / d) quotient

pub prefix_of_job : (j : Job) → IsJob j → (k : ℕ) → k < paths j
    → path_number (take j.p (job_radices j)) (take j.p (digits_of j k)) ≡ k / paths_per_prefix j
prefix_of_job j h k l = prefix_number j.p (job_radices j) k (low j.p j.r (length (job_radices j)) h.is_split) l
  where
    low : (p r n : ℕ) → p + r ≤ n → p ≤ n
    low p r n h = omega arith
