-- Sums of numbers.
use Rattle.std.proofs.Common.{◌≡◌, ◌≢◌, ℕ, zero, suc, ◌+◌, ◌*◌, ◌<◌, inl, inr, Bool, true, false, cond, arith, refl, sym, ap, ◌∙◌}
use Rattle.std.proofs.lemmas.Int.{ints}
use Rattle.std.proofs.lemmas.Bool.{cases_eq}
use Rattle.qh_ring.specs.declared.number.Omega.{Omega}
use Rattle.qh_ring.specs.Numbers.{sum, product, nothing}
use Rattle.qh_ring.specs.States.{sum_below}
use Rattle.qh_ring.proofs.NumberLemmas.{same_number, product_comm, product_sum, nothing_times}

pub sum_nothing : (x : Omega) → sum x nothing ≡ x
sum_nothing x = same_number _ _ (omega (arith, ints)) (omega (arith, ints)) (omega (arith, ints)) (omega (arith, ints))

pub nothing_sum : (x : Omega) → sum nothing x ≡ x
nothing_sum x = same_number _ _ (omega (arith, ints)) (omega (arith, ints)) (omega (arith, ints)) (omega (arith, ints))

-- a sum whose terms are all 0
pub sum_below_none : (n : ℕ) (f : ℕ → Omega) → ((k : ℕ) → k < n → f k ≡ nothing) → sum_below n f ≡ nothing
sum_below_none zero f h = refl
sum_below_none (suc n) f h =
    let e : sum_below n f ≡ nothing = sum_below_none n f (λ k l. h k (omega arith)) in
    let g : f n ≡ nothing = h n (omega arith) in
    rw (e, g) (sum_nothing nothing)

-- a sum with one term
pub sum_below_one : (n i : ℕ) (f : ℕ → Omega) → i < n → ((k : ℕ) → k < n → k ≢ i → f k ≡ nothing) → sum_below n f ≡ f i
sum_below_one zero i f l h = absurd (omega arith)
sum_below_one (suc n) i f l h = elim (cases_eq i n) [
  | inl e ↦
      let z : sum_below n f ≡ nothing = sum_below_none n f (λ k m. h k (omega arith) (omega arith)) in
      rw (z, nothing_sum (f n)) (ap f (sym e))
  | inr ne ↦
      let z : sum_below n f ≡ f i = sum_below_one n i f (omega arith) (λ k m. h k (omega arith)) in
      let g : f n ≡ nothing = h n (omega arith) (omega arith) in
      rw (z, g) (sum_nothing (f i))
]

-- a sum with two terms
pub sum_below_two : (n i j : ℕ) (f : ℕ → Omega) → i < j → j < n → ((k : ℕ) → k < n → k ≢ i → k ≢ j → f k ≡ nothing) → sum_below n f ≡ sum (f i) (f j)
sum_below_two zero i j f l m h = absurd (omega arith)
sum_below_two (suc n) i j f l m h = elim (cases_eq j n) [
  | inl e ↦
      let z : sum_below n f ≡ f i = sum_below_one n i f (omega arith) (λ k b ne. h k (omega arith) ne (omega arith)) in
      rw z (ap (λ k. sum (f i) (f k)) (sym e))
  | inr ne ↦
      let z : sum_below n f ≡ sum (f i) (f j) = sum_below_two n i j f l (omega arith) (λ k b. h k (omega arith)) in
      let g : f n ≡ nothing = h n (omega arith) (omega arith) (omega arith) in
      rw (z, g) (sum_nothing (sum (f i) (f j)))
]

-- what a choice between a number and 0 gives
pub picked : (t : Bool) (z : Omega) → t ≡ true → cond t z nothing ≡ z
picked t z e = rw e refl

pub left_out : (t : Bool) (z : Omega) → t ≡ false → cond t z nothing ≡ nothing
left_out t z e = rw e refl

pub sum_comm : (x y : Omega) → sum x y ≡ sum y x
sum_comm x y = same_number _ _ (omega (arith, ints)) (omega (arith, ints)) (omega (arith, ints)) (omega (arith, ints))

pub sum_assoc : (x y z : Omega) → sum (sum x y) z ≡ sum x (sum y z)
sum_assoc x y z = same_number _ _ (omega (arith, ints)) (omega (arith, ints)) (omega (arith, ints)) (omega (arith, ints))

pub sum_sums : (a b c d : Omega) → sum (sum a b) (sum c d) ≡ sum (sum a c) (sum b d)
sum_sums a b c d = same_number _ _ (omega (arith, ints)) (omega (arith, ints)) (omega (arith, ints)) (omega (arith, ints))

pub product_nothing : (x : Omega) → product x nothing ≡ nothing
product_nothing x = product_comm x nothing ∙ nothing_times x

pub sum_product : (x y z : Omega) → product (sum x y) z ≡ sum (product x z) (product y z)
sum_product x y z = product_comm (sum x y) z ∙ product_sum z x y ∙ ap (λ t. sum t (product z y)) (product_comm z x) ∙ ap (sum (product x z)) (product_comm z y)

pub sum_below_same : (n : ℕ) (f g : ℕ → Omega) → ((k : ℕ) → k < n → f k ≡ g k) → sum_below n f ≡ sum_below n g
sum_below_same zero f g h = refl
sum_below_same (suc n) f g h =
    let e : sum_below n f ≡ sum_below n g = sum_below_same n f g (λ k l. h k (omega arith)) in
    let t : f n ≡ g n = h n (omega arith) in
    rw (e, t) refl

pub sum_below_sum : (n : ℕ) (f g : ℕ → Omega) → sum_below n (λ k. sum (f k) (g k)) ≡ sum (sum_below n f) (sum_below n g)
sum_below_sum zero f g = sym (sum_nothing nothing)
sum_below_sum (suc n) f g = ap (λ t. sum t (sum (f n) (g n))) (sum_below_sum n f g) ∙ sum_sums (sum_below n f) (sum_below n g) (f n) (g n)

pub sum_below_nothing : (n : ℕ) → sum_below n (λ k. nothing) ≡ nothing
sum_below_nothing zero = refl
sum_below_nothing (suc n) = ap (λ t. sum t nothing) (sum_below_nothing n) ∙ sum_nothing nothing

pub sum_below_swap : (n m : ℕ) (f : ℕ → ℕ → Omega) → sum_below n (λ i. sum_below m (f i)) ≡ sum_below m (λ j. sum_below n (λ i. f i j))
sum_below_swap zero m f = sym (sum_below_nothing m)
sum_below_swap (suc n) m f = ap (λ t. sum t (sum_below m (f n))) (sum_below_swap n m f) ∙ sym (sum_below_sum m (λ j. sum_below n (λ i. f i j)) (f n))

pub product_sum_below : (n : ℕ) (x : Omega) (f : ℕ → Omega) → product x (sum_below n f) ≡ sum_below n (λ k. product x (f k))
product_sum_below zero x f = product_nothing x
product_sum_below (suc n) x f = product_sum x (sum_below n f) (f n) ∙ ap (λ t. sum t (product x (f n))) (product_sum_below n x f)

pub sum_below_product : (n : ℕ) (f : ℕ → Omega) (x : Omega) → product (sum_below n f) x ≡ sum_below n (λ k. product (f k) x)
sum_below_product zero f x = nothing_times x
sum_below_product (suc n) f x = sum_product (sum_below n f) (f n) x ∙ ap (λ t. sum t (product (f n) x)) (sum_below_product n f x)

-- the numbers below m, and then n more
pub sum_below_add : (m n : ℕ) (f : ℕ → Omega) → sum_below (m + n) f ≡ sum (sum_below m f) (sum_below n (λ k. f (m + k)))
sum_below_add m zero f =
    let e : m + zero ≡ m = omega arith in
    ap (λ k. sum_below k f) e ∙ sym (sum_nothing (sum_below m f))
sum_below_add m (suc n) f =
    let e : m + suc n ≡ suc (m + n) = omega arith in
    ap (λ k. sum_below k f) e ∙ ap (λ t. sum t (f (m + n))) (sum_below_add m n f) ∙ sum_assoc (sum_below m f) (sum_below n (λ k. f (m + k))) (f (m + n))

-- m blocks of n numbers each
pub sum_below_blocks : (m n : ℕ) (f : ℕ → Omega) → sum_below (m * n) f ≡ sum_below m (λ i. sum_below n (λ j. f (i * n + j)))
sum_below_blocks zero n f =
    let e : zero * n ≡ zero = omega arith in
    ap (λ k. sum_below k f) e
sum_below_blocks (suc m) n f =
    let e : suc m * n ≡ m * n + n = omega arith in
    ap (λ k. sum_below k f) e ∙ sum_below_add (m * n) n f ∙ ap (λ t. sum t (sum_below n (λ j. f (m * n + j)))) (sum_below_blocks m n f)

-- a product of two sums is the sum of the products
pub product_of_sums : (n m : ℕ) (f g : ℕ → Omega) → product (sum_below n f) (sum_below m g) ≡ sum_below n (λ i. sum_below m (λ j. product (f i) (g j)))
product_of_sums n m f g =
    sum_below_product n f (sum_below m g) ∙ sum_below_same n _ _ (λ k l. product_sum_below m (f k) g)
