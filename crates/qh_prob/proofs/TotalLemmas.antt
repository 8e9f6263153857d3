-- What all probabilities add up to, and what each of them is at most.
use Rattle.std.proofs.Common.{◌≡◌, ℕ, zero, suc, ◌+◌, ◌-◌, ◌*◌, ◌^◌, ◌<◌, ◌≤◌, inl, inr, ℤ, pos, negsuc, ◌+ℤ◌, ◌-ℤ◌, ◌*ℤ◌, ◌≤ℤ◌, neg_ℤ, to_z, of_z, List, [], ◌∷◌, length, map, take, All, get_or, arith, refl, sym, ap, subst, ◌∙◌}
use Rattle.std.specs.Prelude.{unsigned_abs}
use Rattle.std.specs.Int.{w128}
use Rattle.std.specs.List.{range_with_len}
use Rattle.std.proofs.Math.Path.{ap₂}
use Rattle.std.proofs.Math.Pow.{pow_mono}
use Rattle.std.proofs.lemmas.Int.{ints}
use Rattle.std.proofs.lemmas.Nat.{mul-le, mul-lt}
use Rattle.std.proofs.lemmas.Bool.{cases_lt, cases_eq}
use Rattle.std.proofs.lemmas.List.{take_all}
use Rattle.std.proofs.lemmas.List.Sums.{sum_by-cons}
use Rattle.std.proofs.lemmas.List.Elements.{All-take, All-map, All-from_get_or}
use Rattle.qh_ring.specs.declared.number.Omega.{Omega}
use Rattle.qh_ring.specs.Numbers.{sum, product, nothing, IsBelow, IsWithin}
use Rattle.qh_ring.specs.States.{sum_below, listed}
use Rattle.qh_ring.proofs.NumberLemmas.{same_number}
use Rattle.qh_ring.proofs.SumLemmas.{sum_below_same, sum_below_add, nothing_sum}
use Rattle.qh_ring.proofs.ListedLemmas.{length-listed, at_listed}
use Rattle.qh_gates.specs.declared.gate.Gate.{Gate}
use Rattle.qh_gates.specs.Tables.{weight_of}
use Rattle.qh_gates.specs.Circuits.{Circuit, IsCircuit, Fits, total_weight}
use Rattle.qh_gates.specs.Evolution.{uncut, StateFits, IsUncutOver}
use Rattle.qh_prob.specs.declared.prob.Prob.{Prob}
use Rattle.qh_prob.specs.Probability.{probability, probabilities, plus, never, total, certain, IsBounded}
use Rattle.qh_prob.specs.Laws.{in_ring}
use Rattle.qh_prob.proofs.RingLemmas.{norm, squared_magnitude}
use Rattle.qh_prob.proofs.GramLemmas.{norms}
use Rattle.qh_prob.proofs.UnitaryLemmas.{whole, norms_uncut}

-- ---- the sum of the list
in_ring_plus : (x y : Prob) → in_ring (plus x y) ≡ sum (in_ring x) (in_ring y)
in_ring_plus x y = same_number _ _ (omega (arith, ints)) (omega (arith, ints)) (omega (arith, ints)) (omega (arith, ints))

first_apart : (n : ℕ) (f : ℕ → Omega) → sum_below (suc n) f ≡ sum (f 0) (sum_below n (λ k. f (1 + k)))
first_apart n f =
    let e : suc n ≡ 1 + n = omega arith in
    ap (λ k. sum_below k f) e ∙ sum_below_add 1 n f ∙ ap (λ t. sum t (sum_below n (λ k. f (1 + k)))) (nothing_sum (f 0))

in_ring_total : (v : ℕ → Omega) (n a : ℕ) → in_ring (total (map probability (map v (range_with_len a n)))) ≡ sum_below n (λ k. norm (v (a + k)))
in_ring_total v zero a = refl
in_ring_total v (suc n) a =
    let first : a + 0 ≡ a = omega arith in
    in_ring_plus (probability (v a)) (total (map probability (map v (range_with_len (a + 1) n))))
    ∙ ap₂ sum (sym (squared_magnitude (v a)) ∙ ap (λ k. norm (v k)) (sym first))
    (in_ring_total v n (a + 1) ∙ sum_below_same n _ _ (λ k l. ap (λ i. norm (v i)) (moved a k)))
    ∙ sym (first_apart n (λ k. norm (v (a + k))))
  where
    moved : (a k : ℕ) → a + 1 + k ≡ a + (1 + k)
    moved a k = omega arith

total_norms : (n : ℕ) (v : ℕ → Omega) → in_ring (total (map probability (listed n v))) ≡ norms n v
unfolding listed
total_norms n v = in_ring_total v (2 ^ n) 0 ∙ sum_below_same (2 ^ n) _ _ (λ k l. ap (λ i. norm (v i)) (from_zero k))
  where
    from_zero : (k : ℕ) → 0 + k ≡ k
    from_zero k = omega arith

pub same_prob : (x y : Prob) → x.p ≡ y.p → x.q ≡ y.q → x ≡ y
same_prob x y e f = λ i. record { p = e i; q = f i }

pub add_up : (c : Circuit) → IsCircuit c → total (probabilities c) ≡ certain (total_weight c.gates)
add_up c valid =
    let h = total_norms c.qubits (uncut c.gates) ∙ norms_uncut c.qubits c.gates valid.fit in
    same_prob _ _ (ap (λ (z : Omega). z.a) h) (ap (λ (z : Omega). z.b) h)

-- ---- each part of the sum
square_is : (x : ℤ) → x *ℤ x ≡ pos (unsigned_abs x * unsigned_abs x)
square_is (pos n) = refl
square_is (negsuc n) = refl

magnitudes : (x y : ℤ) → unsigned_abs (x *ℤ y) ≡ unsigned_abs x * unsigned_abs y
magnitudes (pos m) (pos n) = refl
magnitudes (pos m) (negsuc n) = omega (arith, ints)
magnitudes (negsuc m) (pos n) = omega (arith, ints)
magnitudes (negsuc m) (negsuc n) = refl

-- the sum of the four squares
abbrev pub squares : Omega → ℕ
squares z =
    unsigned_abs z.a * unsigned_abs z.a + unsigned_abs z.b * unsigned_abs z.b + unsigned_abs z.c * unsigned_abs z.c + unsigned_abs z.d * unsigned_abs z.d

pub p_is : (z : Omega) → (probability z).p ≡ pos (squares z)
p_is z =
    let a = square_is z.a in
    let b = square_is z.b in
    let c = square_is z.c in
    let d = square_is z.d in
    rw (a, b, c, d) (omega (arith, ints))

part_of_sum : (n : ℕ) (f : ℕ → Omega) (g : ℕ → ℕ) → ((k : ℕ) → (f k).a ≡ pos (g k))
    → (m : ℕ) × ((sum_below n f).a ≡ pos m) × ((k : ℕ) → k < n → g k ≤ m)
part_of_sum zero f g h = (0, refl, λ k l. absurd (omega arith))
part_of_sum (suc n) f g h =
    let before = part_of_sum n f g h in (
      before.0 + g n,
      ap₂ (λ x y. x +ℤ y) before.1 (h n) ∙ omega (arith, ints),
      λ k l. elim (cases_eq k n) [
        | inl e ↦ subst (λ i. g i ≤ before.0 + g n) (sym e) (omega arith)
        | inr ne ↦ let b = before.2 k (omega arith) in omega arith
      ],
    )

-- each number's squares are at most 2 ^ the weight
pub squares_at_most : (n : ℕ) (gates : List Gate) (x : ℕ) → All (Fits n) gates → x < 2 ^ n → squares (uncut gates x) ≤ 2 ^ total_weight gates
squares_at_most n gates x fit l =
    let v = uncut gates in
    let all = part_of_sum (2 ^ n) (λ k. norm (v k)) (λ k. squares (v k)) (λ k. ap (λ (z : Omega). z.a) (squared_magnitude (v k)) ∙ p_is (v k)) in
    let is : pos all.0 ≡ pos (2 ^ total_weight gates) = sym all.1 ∙ ap (λ (z : Omega). z.a) (norms_uncut n gates fit) in
    let same : all.0 ≡ 2 ^ total_weight gates = ap unsigned_abs is in
    let below = all.2 x l in
    omega arith

-- ---- so no number is wide
root_below : (m : ℕ) → m * m ≤ 2 ^ 120 → m < 2 ^ 61
root_below m h = elim (cases_lt m (2 ^ 61)) [
  | inl l ↦ l
  | inr l ↦ let s = mul-le (2 ^ 61) (2 ^ 61) m m l l in absurd (omega arith)
]

pub narrow : (z : Omega) (w : ℕ) → w ≤ 120 → squares z ≤ 2 ^ w → IsWithin 61 z
narrow z w few h =
    let m : 2 ^ w ≤ 2 ^ 120 = pow_mono few in
    record {
      a = root_below (unsigned_abs z.a) (omega arith);
      b = root_below (unsigned_abs z.b) (omega arith);
      c = root_below (unsigned_abs z.c) (omega arith);
      d = root_below (unsigned_abs z.d) (omega arith);
    }

wider : (z : Omega) → IsWithin 61 z → IsWithin 126 z
wider z h =
    let ha = h.a in let hb = h.b in let hc = h.c in let hd = h.d in
    record { a = omega arith; b = omega arith; c = omega arith; d = omega arith }

weight_take : (k : ℕ) (gates : List Gate) → total_weight (take k gates) ≤ total_weight gates
weight_take zero gates = omega arith
weight_take (suc k) [] = omega arith
weight_take (suc k) (g ∷ gates) =
    let i = weight_take k gates in
    let all = sum_by-cons (λ (g : Gate). weight_of g.kind) g gates in
    let few : total_weight (take (suc k) (g ∷ gates)) ≡ weight_of g.kind + total_weight (take k gates) = sum_by-cons (λ (g : Gate). weight_of g.kind) g (take k gates) in
    omega arith

pub never_over : (c : Circuit) (gate : ℕ) → IsCircuit c → total_weight c.gates ≤ 120 → IsUncutOver c gate → ⊥
never_over c gate valid few over = over.over (λ x l. wider _ (narrow _ _
    (let t = weight_take (gate + 1) c.gates in omega arith)
    (squares_at_most c.qubits (take (gate + 1) c.gates) x (All-take (Fits c.qubits) (gate + 1) c.gates valid.fit) l)))

pub state_narrow : (c : Circuit) → IsCircuit c → total_weight c.gates ≤ 120 → All (IsWithin 61) (listed c.qubits (uncut c.gates))
state_narrow c valid few = All-from_get_or (IsWithin 61) (listed c.qubits (uncut c.gates)) nothing (λ k l.
    let b : k < 2 ^ c.qubits = rw (sym (length-listed c.qubits (uncut c.gates))) l in
    subst (IsWithin 61) (sym (at_listed c.qubits (uncut c.gates) k b)) (narrow _ _ few (squares_at_most c.qubits c.gates k valid.fit b)))

-- ---- and each probability is bounded
twice_product : (m n : ℕ) → 2 * (m * n) ≤ m * m + n * n
twice_product m n = elim (cases_lt m n) [
  | inl l ↦ apart m (n - m) n (omega arith)
  | inr l ↦ let h = apart n (m - n) m (omega arith) in let e : m * n ≡ n * m = omega arith in omega arith
]
  where
    apart : (m d n : ℕ) → n ≡ m + d → 2 * (m * n) ≤ m * m + n * n
    apart m d n e = rw e (expanded m d)
      where
        expanded : (m d : ℕ) → 2 * (m * (m + d)) ≤ m * m + (m + d) * (m + d)
        expanded m d = omega arith

four_magnitudes : (x y z w : ℤ) → unsigned_abs (x +ℤ y +ℤ z -ℤ w) ≤ unsigned_abs x + unsigned_abs y + unsigned_abs z + unsigned_abs w
four_magnitudes x y z w = omega (arith, ints)

q_at_most : (z : Omega) → unsigned_abs (probability z).q ≤ squares z
q_at_most z =
    let sum = four_magnitudes (z.a *ℤ z.b) (z.b *ℤ z.c) (z.c *ℤ z.d) (z.d *ℤ z.a) in
    let ab = magnitudes z.a z.b in
    let bc = magnitudes z.b z.c in
    let cd = magnitudes z.c z.d in
    let da = magnitudes z.d z.a in
    let tab = twice_product (unsigned_abs z.a) (unsigned_abs z.b) in
    let tbc = twice_product (unsigned_abs z.b) (unsigned_abs z.c) in
    let tcd = twice_product (unsigned_abs z.c) (unsigned_abs z.d) in
    let tda = twice_product (unsigned_abs z.d) (unsigned_abs z.a) in
    omega arith

pub bounded_one : (z : Omega) (w : ℕ) → w ≤ 120 → squares z ≤ 2 ^ w → IsBounded (probability z)
bounded_one z w few h =
    let m : 2 ^ w ≤ 2 ^ 120 = pow_mono few in
    let e = p_is z in
    let q = q_at_most z in
    record { p = rw e (omega (arith, ints)); q = rw e (omega (arith, ints)) }

pub all_bounded : (c : Circuit) → IsCircuit c → total_weight c.gates ≤ 120 → All IsBounded (probabilities c)
all_bounded c valid few = All-map IsBounded probability (listed c.qubits (uncut c.gates))
    (All-from_get_or (λ z. IsBounded (probability z)) (listed c.qubits (uncut c.gates)) nothing (λ k l.
    let b : k < 2 ^ c.qubits = rw (sym (length-listed c.qubits (uncut c.gates))) l in
    subst (λ z. IsBounded (probability z)) (sym (at_listed c.qubits (uncut c.gates) k b)) (bounded_one _ _ few (squares_at_most c.qubits c.gates k valid.fit b))))

-- ---- what the code multiplies
pub product_below : (x y : ℤ) → IsBelow 61 x → IsBelow 61 y → IsBelow 122 (x *ℤ y)
product_below x y hx hy =
    let m = magnitudes x y in
    let l = mul-lt (unsigned_abs x) (unsigned_abs y) (2 ^ 61) (2 ^ 61) hx hy in
    omega arith

kept : (x : ℤ) → IsBelow 122 x → to_z w128 (of_z w128 x) ≡ x
kept x h = omega (arith, ints)

-- what the code reads back of a product
pub read_product : (x y : ℤ) → IsBelow 61 x → IsBelow 61 y → to_z w128 (of_z w128 (to_z w128 (of_z w128 x) *ℤ to_z w128 (of_z w128 y))) ≡ x *ℤ y
read_product x y hx hy =
    let ex = kept x (omega arith) in
    let ey = kept y (omega arith) in
    (λ i. to_z w128 (of_z w128 (ex i *ℤ ey i))) ∙ kept (x *ℤ y) (product_below x y hx hy)

-- the answer holds the probability of each number of the state
pub all_there : (n i : ℕ) (v : ℕ → Omega) (items state : List Omega) (probs : List Prob)
    → probs ≡ map probability (take i items) → length items ≤ i → items ≡ state → state ≡ listed n v → probs ≡ map probability (listed n v)
all_there n i v items state probs e l f g = e ∙ ap (map probability) (take_all i items l ∙ f ∙ g)
