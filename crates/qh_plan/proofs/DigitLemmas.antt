-- Path numbers and their digits.
use Rattle.std.proofs.Common.{◌≡◌, ℕ, zero, suc, ◌+◌, ◌*◌, ◌/◌, ◌%◌, ◌^◌, ◌<◌, ◌≤◌, inl, inr, List, [], ◌∷◌, ◌++◌, length, get_or, take, drop, arith, refl, sym, ap, subst, ◌∙◌, append_assoc, All}
use Rattle.std.proofs.lemmas.List.{length_push}
use Rattle.std.proofs.Math.Path.{ap₂}
use Rattle.std.proofs.Math.Nat.{mul_assoc, add-mul, one-mul, mul-one, mul_comm}
use Rattle.std.specs.List.{AllZip}
use Rattle.std.proofs.lemmas.Nat.{mod_below, div_below, div-add-mod', mul-add-lt, div-mul-add, mod-mul-add, pow-add, mul-le, pow_below}
use Rattle.std.proofs.lemmas.Bool.{cases_lt}
use Rattle.std.proofs.lemmas.List.Sums.{sum_by-cons}
use Rattle.std.proofs.lemmas.List.{drop_more}
use Rattle.std.proofs.lemmas.List.Elements.{All-head, All-tail, All-drop}
use Rattle.qh_plan.specs.Paths.{path_count, path_number, path_digits}
use Rattle.qh_plan.proofs.PathLemmas.{path_count_split}
use Rattle.qh_plan.specs.Plans.{IsRadix, term_bits, path_bits}

-- ---- how many paths there are

pub radix_positive : (r : ℕ) → IsRadix r → 0 < r
radix_positive r (inl e) = omega arith
radix_positive r (inr (inl e)) = omega arith
radix_positive r (inr (inr e)) = omega arith

product_positive : (a b : ℕ) → 0 < a → 0 < b → 0 < a * b
product_positive a b l m = let h = mul-le 1 1 a b (omega arith) (omega arith) in omega arith

pub count_positive : (rs : List ℕ) → All IsRadix rs → 0 < path_count rs
count_positive [] h = omega arith
count_positive (r ∷ rs) h = product_positive r (path_count rs) (radix_positive r (All-head IsRadix r rs h)) (count_positive rs (All-tail IsRadix r rs h))

pub count_next : (rs : List ℕ) (i d : ℕ) → i < length rs → path_count (drop i rs) ≡ get_or rs i d * path_count (drop (i + 1) rs)
count_next rs i d l = ap path_count (drop_more rs i d l)

-- how many paths two lists of gates have together
pub front_le : (n : ℕ) (rs : List ℕ) → All IsRadix rs → path_count (take n rs) ≤ path_count rs
front_le n rs h =
    let e = path_count_split n rs in
    let p = count_positive (drop n rs) (All-drop IsRadix n rs h) in
    let m = mul-le (path_count (take n rs)) 1 (path_count (take n rs)) (path_count (drop n rs)) (omega arith) (omega arith) in
    omega (arith, mul-one (path_count (take n rs)))

pub back_le : (n : ℕ) (rs : List ℕ) → All IsRadix rs → 0 < path_count (take n rs) → path_count (drop n rs) ≤ path_count rs
back_le n rs h p =
    let e = path_count_split n rs in
    let m = mul-le 1 (path_count (drop n rs)) (path_count (take n rs)) (path_count (drop n rs)) (omega arith) (omega arith) in
    omega (arith, one-mul (path_count (drop n rs)))

-- ---- the exponent of two

radix_power : (r : ℕ) → IsRadix r → r ≡ 2 ^ term_bits r
radix_power r (inl e) = rw e refl
radix_power r (inr (inl e)) = rw e refl
radix_power r (inr (inr e)) = rw e refl

pub count_power : (rs : List ℕ) → All IsRadix rs → path_count rs ≡ 2 ^ path_bits rs
count_power [] h = refl
count_power (r ∷ rs) h =
    ap₂ (λ (a b : ℕ). a * b) (radix_power r (All-head IsRadix r rs h)) (count_power rs (All-tail IsRadix r rs h))
    ∙ sym (pow-add 2 (term_bits r) (path_bits rs)) ∙ ap (λ k. 2 ^ k) (sym (sum_by-cons term_bits r rs))

power_le : (a b : ℕ) → a ≤ b → 2 ^ a ≤ 2 ^ b
power_le a b l = elim (cases_lt a b) [ inl m ↦ let h = pow_below a b m in omega arith | inr m ↦ let e : a ≡ b = omega arith in rw e (omega arith) ]

pub many_paths : (rs : List ℕ) → All IsRadix rs → 32 < path_bits rs → 2 ^ 32 < path_count rs
many_paths rs h l = rw (count_power rs h) (pow_below 32 (path_bits rs) l)

pub few_paths : (rs : List ℕ) → All IsRadix rs → path_bits rs ≤ 32 → path_count rs ≤ 2 ^ 32
few_paths rs h l = rw (count_power rs h) (power_le (path_bits rs) 32 l)

-- ---- the product so far

pub count_fits : (rs : List ℕ) (i count d : ℕ) → All IsRadix rs → i < length rs → count * path_count (drop i rs) ≡ path_count rs
    → count * get_or rs i d ≤ path_count rs
count_fits rs i count d known l e =
    let r = get_or rs i d in
    let c = path_count (drop (i + 1) rs) in
    let p = count_positive (drop (i + 1) rs) (All-drop IsRadix (i + 1) rs known) in
    let m = mul-le (count * r) 1 (count * r) c (omega arith) (omega arith) in
    let f : (count * r) * c ≡ path_count rs = mul_assoc count r c ∙ ap (λ k. count * k) (sym (count_next rs i d l)) ∙ e in
    omega (arith, mul-one (count * r))

-- ---- digits

factors_positive : (r c k : ℕ) → k < r * c → (0 < c) × (0 < r)
factors_positive r zero k l = absurd (omega arith)
factors_positive zero (suc c) k l = absurd (omega arith)
factors_positive (suc r) (suc c) k l = (omega arith, omega arith)

-- each digit of a path is below the number of terms of its gate
pub digits_below : (rs : List ℕ) (k : ℕ) → k < path_count rs → AllZip (λ d r. d < r) (path_digits rs k) rs
digits_below [] k l = tt
digits_below (r ∷ rs) k l =
    let p = factors_positive r (path_count rs) k l in
    (div_below k (path_count rs) r p.0 l, digits_below rs (k % path_count rs) (mod_below k (path_count rs) p.0))

-- the digits of a path have its number
pub number_of_digits : (rs : List ℕ) (k : ℕ) → k < path_count rs → path_number rs (path_digits rs k) ≡ k
number_of_digits [] k l = omega arith
number_of_digits (r ∷ rs) k l =
    let c = path_count rs in
    let p = factors_positive r c k l in
    ap (λ n. k / c * c + n) (number_of_digits rs (k % c) (mod_below k c p.0)) ∙ div-add-mod' k c

pub number_below : (rs ds : List ℕ) → AllZip (λ d r. d < r) ds rs → path_number rs ds < path_count rs
number_below [] [] h = omega arith
number_below [] (d ∷ ds) h = absurd h
number_below (r ∷ rs) [] h = absurd h
number_below (r ∷ rs) (d ∷ ds) h =
    let m = mul-add-lt d (path_count rs) (path_number rs ds) r h.0 (number_below rs ds h.1) in
    omega (arith, mul_comm (path_count rs) r)

-- digits are those of their number
pub digits_of_number : (rs ds : List ℕ) → AllZip (λ d r. d < r) ds rs → path_digits rs (path_number rs ds) ≡ ds
digits_of_number [] [] h = refl
digits_of_number [] (d ∷ ds) h = absurd h
digits_of_number (r ∷ rs) [] h = absurd h
digits_of_number (r ∷ rs) (d ∷ ds) h =
    let c = path_count rs in
    let n = path_number rs ds in
    let l = number_below rs ds h.1 in
    ap₂ (λ (x : ℕ) (xs : List ℕ). x ∷ xs) (div-mul-add d c n l) (ap (path_digits rs) (mod-mul-add d c n l) ∙ digits_of_number rs ds h.1)

-- ---- one digit more

-- the digits so far, those of the rest, and what is left of the number
pub record IsTaken (rs : List ℕ) (path i rest count : ℕ) (digits : List ℕ) : Type 0 where
  pub many : length digits ≡ i
  pub counted : count ≡ path_count (drop i rs)
  pub below : rest < count
  pub same : digits ++ path_digits (drop i rs) rest ≡ path_digits rs path

quotient_of : (r c : ℕ) → 0 < r → r * c / r ≡ c
quotient_of r c p = ap (λ k. k / r) (mul_comm r c ∙ sym (sum_zero (c * r))) ∙ div-mul-add c r 0 p
  where
    sum_zero : (n : ℕ) → n + 0 ≡ n
    sum_zero n = omega arith

pub fewer : (rs : List ℕ) (path i rest count d : ℕ) (digits : List ℕ) → IsTaken rs path i rest count digits → i < length rs → 0 < get_or rs i d
    → count / get_or rs i d ≡ path_count (drop (i + 1) rs)
fewer rs path i rest count d digits h l p = ap (λ k. k / get_or rs i d) (h.counted ∙ count_next rs i d l) ∙ quotient_of (get_or rs i d) (path_count (drop (i + 1) rs)) p

pub fewer_positive : (rs : List ℕ) (path i rest count d : ℕ) (digits : List ℕ) → IsTaken rs path i rest count digits → i < length rs → 0 < get_or rs i d
    → (0 < count / get_or rs i d) × (rest / (count / get_or rs i d) < get_or rs i d)
fewer_positive rs path i rest count d digits h l p =
    let r = get_or rs i d in
    let c = path_count (drop (i + 1) rs) in
    let e = fewer rs path i rest count d digits h l p in
    let below : rest < r * c = subst (λ k. rest < k) (h.counted ∙ count_next rs i d l) h.below in
    let q = factors_positive r c rest below in
    (subst (λ k. 0 < k) (sym e) q.0, subst (λ k. rest / k < r) (sym e) (div_below rest c r q.0 below))

pub taken_more : (rs : List ℕ) (path i rest count d : ℕ) (digits more : List ℕ) → IsTaken rs path i rest count digits → i < length rs → 0 < get_or rs i d
    → more ≡ digits ++ (rest / (count / get_or rs i d)) ∷ []
    → IsTaken rs path (i + 1) (rest % (count / get_or rs i d)) (count / get_or rs i d) more
taken_more rs path i rest count d digits more h l p m =
    let e = fewer rs path i rest count d digits h l p in
    let q = fewer_positive rs path i rest count d digits h l p in
    let c = count / get_or rs i d in
    let digit = rest / c in
    let step : path_digits (drop i rs) rest ≡ digit ∷ path_digits (drop (i + 1) rs) (rest % c) =
    ap (λ xs. path_digits xs rest) (drop_more rs i d l) ∙ ap (λ k. rest / k ∷ path_digits (drop (i + 1) rs) (rest % k)) (sym e) in
    record {
      many = omega (arith, ap (length {A = ℕ}) m, length_push digits digit, h.many);
      counted = e;
      below = mod_below rest c q.0;
      same = ap (λ xs. xs ++ path_digits (drop (i + 1) rs) (rest % c)) m ∙ append_assoc digits (digit ∷ []) (path_digits (drop (i + 1) rs) (rest % c))
          ∙ ap (λ xs. digits ++ xs) (sym step) ∙ h.same;
    }

-- ---- one digit of a number more

-- the number so far, before the digits from i on
pub record IsRead (rs ds : List ℕ) (i number : ℕ) : Type 0 where
  pub same : number * path_count (drop i rs) + path_number (drop i rs) (drop i ds) ≡ path_number rs ds

number_step : (rs ds : List ℕ) (i d e : ℕ) → i < length rs → i < length ds
    → path_number (drop i rs) (drop i ds) ≡ get_or ds i e * path_count (drop (i + 1) rs) + path_number (drop (i + 1) rs) (drop (i + 1) ds)
number_step rs ds i d e l m = ap₂ path_number (drop_more rs i d l) (drop_more ds i e m)

regrouped : (n r c d rest : ℕ) → (n * r + d) * c + rest ≡ n * (r * c) + (d * c + rest)
regrouped n r c d rest = omega (arith, add-mul (n * r) d c, mul_assoc n r c)

pub read_more : (rs ds : List ℕ) (i number d e : ℕ) → IsRead rs ds i number → i < length rs → i < length ds
    → IsRead rs ds (i + 1) (number * get_or rs i d + get_or ds i e)
read_more rs ds i number d e h l m = record {
  same =
      let r = get_or rs i d in
      let x = get_or ds i e in
      let c = path_count (drop (i + 1) rs) in
      let rest = path_number (drop (i + 1) rs) (drop (i + 1) ds) in
      regrouped number r c x rest ∙ ap₂ (λ (a b : ℕ). number * a + b) (sym (count_next rs i d l)) (sym (number_step rs ds i d e l m)) ∙ h.same;
}

pub read_below : (rs ds : List ℕ) (i number : ℕ) → IsRead rs ds i number → All IsRadix rs → AllZip (λ d r. d < r) ds rs → number < path_count rs
read_below rs ds i number h known z =
    let p = count_positive (drop i rs) (All-drop IsRadix i rs known) in
    let m = mul-le number 1 number (path_count (drop i rs)) (omega arith) (omega arith) in
    let l = number_below rs ds z in
    omega (arith, h.same, mul-one number)
