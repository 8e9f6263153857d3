-- A path's number in two parts.
use Rattle.std.proofs.Common.{◌≡◌, ℕ, zero, suc, ◌+◌, ◌*◌, ◌/◌, ◌%◌, ◌<◌, List, [], ◌∷◌, ◌++◌, take, drop, arith, refl, sym, ap, ◌∙◌}
use Rattle.std.proofs.Math.Path.{ap₂}
use Rattle.std.proofs.Math.Arith.{mod-mul}
use Rattle.std.proofs.Math.Nat.{div-div-eq-div-mul, mul_comm, mod-eq_of_lt}
use Rattle.std.proofs.lemmas.Nat.{div-mul-add, mod-mul-add, mod_below}
use Rattle.qh_plan.specs.Paths.{path_count, path_digits}

-- the paths of the first m radices, each with those of the others
pub path_count_split : (m : ℕ) (rs : List ℕ) → path_count (take m rs) * path_count (drop m rs) ≡ path_count rs
path_count_split zero rs = omega arith
path_count_split (suc m) [] = omega arith
path_count_split (suc m) (r ∷ rs) = product_split r (path_count (take m rs)) (path_count (drop m rs)) (path_count rs) (path_count_split m rs)
  where
    product_split : (r a b c : ℕ) → a * b ≡ c → r * a * b ≡ r * c
    product_split r a b c e = rw (← e) (omega arith)

product_positive : (a b c : ℕ) → a * b ≡ c → 0 < a → 0 < b → 0 < c
product_positive (suc a) (suc b) c e h k = omega arith
product_positive zero b c e h k = absurd (omega arith)
product_positive (suc a) zero c e h k = absurd (omega arith)

factor_positive : (r t : ℕ) → 0 < r * t → 0 < t
factor_positive r zero h = absurd (omega arith)
factor_positive r (suc t) h = omega arith

-- the first p digits are those of the quotient, the others those of the rest
pub digits_split : (p : ℕ) (rs : List ℕ) (k : ℕ) → 0 < path_count (take p rs) → 0 < path_count (drop p rs) → k < path_count rs
    → path_digits rs k ≡ path_digits (take p rs) (k / path_count (drop p rs)) ++ path_digits (drop p rs) (k % path_count (drop p rs))
digits_split zero rs k a b l = ap (path_digits rs) (sym (mod-eq_of_lt l))
digits_split (suc p) [] k a b l = refl
digits_split (suc p) (r ∷ rs) k a b l =
    let t = path_count (take p rs) in
    let d = path_count (drop p rs) in
    let pos : 0 < t = factor_positive r t a in
    let c : path_count rs ≡ t * d = sym (path_count_split p rs) in
    let two : k % (t * d) ≡ (k / d % t) * d + k % d = mod-mul k pos b in
    let below : k % d < d = mod_below k d b in
    let quotient : k % path_count rs / d ≡ k / d % t = ap (λ n. k % n / d) c ∙ ap (λ n. n / d) two ∙ div-mul-add (k / d % t) d (k % d) below in
    let rest : k % path_count rs % d ≡ k % d = ap (λ n. k % n % d) c ∙ ap (λ n. n % d) two ∙ mod-mul-add (k / d % t) d (k % d) below in
    let first : k / path_count rs ≡ k / d / t = ap (λ n. k / n) c ∙ ap (λ n. k / n) (mul_comm t d) ∙ sym (div-div-eq-div-mul k d t) in
    ap₂ (λ x xs. x ∷ xs) first
    (digits_split p rs (k % path_count rs) pos b (mod_below k (path_count rs) (product_positive t d (path_count rs) (sym c) pos b))
    ∙ ap₂ (λ i j. path_digits (take p rs) i ++ path_digits (drop p rs) j) quotient rest)
