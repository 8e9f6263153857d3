-- Each gate of the table keeps the sum of the squared magnitudes, up to the square of its scale.
use Rattle.std.proofs.Common.{◌≡◌, ◌≢◌, ◌⊎◌, ℕ, zero, suc, ◌+◌, ◌*◌, ◌^◌, ◌<◌, ◌==◌, ◌&&◌, inl, inr, Bool, true, false, cond, eqb, ℤ, pos, negsuc, List, [], ◌∷◌, length, map, All, arith, refl, sym, ap, subst, ◌∙◌}
use Rattle.std.proofs.Math.Path.{ap₂}
use Rattle.std.proofs.Math.Pow.{pow-add}
use Rattle.std.proofs.lemmas.Int.{ints}
use Rattle.std.proofs.lemmas.Nat.{pow_pos}
use Rattle.std.proofs.lemmas.Bool.{and_parts, eqb-true, cases_eq, false≢true}
use Rattle.std.proofs.lemmas.List.Sums.{sum_by-cons}
use Rattle.std.proofs.lemmas.List.Elements.{All-head, All-tail}
use Rattle.qh_ring.specs.declared.number.Omega.{Omega}
use Rattle.qh_ring.specs.Numbers.{sum, product, nothing, one as unity}
use Rattle.qh_ring.specs.Matrices.{number_in}
use Rattle.qh_ring.specs.States.{applied, ground, sum_below}
use Rattle.qh_ring.specs.Laws.{AreDistinct, AllLess}
use Rattle.qh_ring.proofs.NumberLemmas.{same_number, one_times, product_assoc, nothing_times}
use Rattle.qh_ring.proofs.SumLemmas.{sum_below_one}
use Rattle.qh_gates.specs.declared.gate.Gate.{Gate}
use Rattle.qh_gates.specs.declared.kind.Kind.{Kind}
use Rattle.qh_gates.specs.Tables.{matrix_of, qubits_of, weight_of}
use Rattle.qh_gates.specs.Circuits.{Fits, total_weight}
use Rattle.qh_gates.specs.Evolution.{evolved, wires, operation_of, uncut}
use Rattle.qh_gates.proofs.KindLemmas.{each_kind, one_or_two}
use Rattle.qh_prob.proofs.RingLemmas.{norm}
use Rattle.qh_prob.proofs.GramLemmas.{gram, norms, IsScaledUnitary, norms_applied}

-- ---- a test that computes
abbrev same_z : ℤ → ℤ → Bool
same_z (pos m) (pos n) = m == n
same_z (negsuc m) (negsuc n) = m == n
same_z (pos m) (negsuc n) = false
same_z (negsuc m) (pos n) = false

same_z-true : (x y : ℤ) → same_z x y ≡ true → x ≡ y
same_z-true (pos m) (pos n) e = ap pos (eqb-true m n e)
same_z-true (negsuc m) (negsuc n) e = ap negsuc (eqb-true m n e)
same_z-true (pos m) (negsuc n) e = absurd (false≢true e)
same_z-true (negsuc m) (pos n) e = absurd (false≢true e)

abbrev same_omega : Omega → Omega → Bool
same_omega x y = same_z x.a y.a && (same_z x.b y.b && (same_z x.c y.c && same_z x.d y.d))

same_omega-true : (x y : Omega) → same_omega x y ≡ true → x ≡ y
same_omega-true x y e =
    let p = and_parts (same_z x.a y.a) (same_z x.b y.b && (same_z x.c y.c && same_z x.d y.d)) e in
    let q = and_parts (same_z x.b y.b) (same_z x.c y.c && same_z x.d y.d) p.1 in
    let r = and_parts (same_z x.c y.c) (same_z x.d y.d) q.1 in
    same_number x y (same_z-true x.a y.a p.0) (same_z-true x.b y.b q.0) (same_z-true x.c y.c r.0) (same_z-true x.d y.d r.1)

abbrev each_below : ℕ → (ℕ → Bool) → Bool
each_below zero test = true
each_below (suc n) test = test n && each_below n test

each_below-true : (n : ℕ) (test : ℕ → Bool) → each_below n test ≡ true → (k : ℕ) → k < n → test k ≡ true
each_below-true zero test e k l = absurd (omega arith)
each_below-true (suc n) test e k l =
    let p = and_parts (test n) (each_below n test) e in
    elim (cases_eq k n) [
      | inl f ↦ subst (λ i. test i ≡ true) (sym f) p.0
      | inr ne ↦ each_below-true n test p.1 k (omega arith)
    ]

-- the whole number n in the ring
abbrev pub whole : ℕ → Omega
whole n = record { a = pos n; b = pos 0; c = pos 0; d = pos 0 }

-- the inner product of two columns is what it is to be
abbrev is_column : Kind → ℕ → ℕ → Bool
is_column kind i j = same_omega (gram (number_in (matrix_of kind)) (2 ^ qubits_of kind) i j) (cond (eqb i j) (whole (2 ^ weight_of kind)) nothing)

abbrev is_unitary : Kind → Bool
is_unitary kind = each_below (2 ^ qubits_of kind) (λ i. each_below (2 ^ qubits_of kind) (λ j. is_column kind i j))

-- each kind of the table passes
each_unitary : (kind : Kind) → is_unitary kind ≡ true
unfolding product
each_unitary kind = each_kind is_unitary refl kind

kind_unitary : (kind : Kind) → IsScaledUnitary (number_in (matrix_of kind)) (2 ^ qubits_of kind) (whole (2 ^ weight_of kind))
kind_unitary kind = record {
  columns = λ i j l b. same_omega-true _ _
      (each_below-true (2 ^ qubits_of kind) (λ j. is_column kind i j)
      (each_below-true (2 ^ qubits_of kind) (λ i. each_below (2 ^ qubits_of kind) (λ j. is_column kind i j)) (each_unitary kind) i l) j b);
}

-- ---- a gate's qubits
wires_count : (g : Gate) → length (wires g) ≡ qubits_of g.kind
wires_count g = elim (one_or_two g.kind) [
  | inl e ↦ subst (λ n. length (cond (n == 2) (g.q0 ∷ g.q1 ∷ []) (g.q0 ∷ [])) ≡ n) (sym e) refl
  | inr e ↦ subst (λ n. length (cond (n == 2) (g.q0 ∷ g.q1 ∷ []) (g.q0 ∷ [])) ≡ n) (sym e) refl
]

wires_distinct : (n : ℕ) (g : Gate) → Fits n g → AreDistinct (wires g)
wires_distinct n g fits = elim (one_or_two g.kind) [
  | inl e ↦ subst (λ m. AreDistinct (cond (m == 2) (g.q0 ∷ g.q1 ∷ []) (g.q0 ∷ []))) (sym e) (tt, tt)
  | inr e ↦
      subst (λ m. AreDistinct (cond (m == 2) (g.q0 ∷ g.q1 ∷ []) (g.q0 ∷ []))) (sym e)
      (((λ same. fits.two e (sym same)), tt), (tt, tt))
]

wires_less : (n : ℕ) (g : Gate) → Fits n g → AllLess n (wires g)
wires_less n g fits = either (qubits_of g.kind == 2) g.q0 g.q1 fits.first fits.second
  where
    either : (b : Bool) (p q : ℕ) → p < n → q < n → AllLess n (cond b (p ∷ q ∷ []) (p ∷ []))
    either true p q l m = (l, (m, tt))
    either false p q l m = (l, tt)

gate_unitary : (g : Gate) → IsScaledUnitary (number_in (matrix_of g.kind)) (2 ^ length (wires g)) (whole (2 ^ weight_of g.kind))
gate_unitary g = subst (λ n. IsScaledUnitary (number_in (matrix_of g.kind)) (2 ^ n) (whole (2 ^ weight_of g.kind))) (sym (wires_count g)) (kind_unitary g.kind)

-- a gate multiplies the sum of the squared magnitudes by 2 where it is scaled
pub norms_gate : (n : ℕ) (g : Gate) (v : ℕ → Omega) → Fits n g
    → norms n (applied (number_in (matrix_of g.kind)) (wires g) v) ≡ product (whole (2 ^ weight_of g.kind)) (norms n v)
norms_gate n g v fits =
    norms_applied (number_in (matrix_of g.kind)) (wires g) (whole (2 ^ weight_of g.kind)) (gate_unitary g) v (wires_distinct n g fits) n (wires_less n g fits)

-- ---- a circuit
whole_product : (m n : ℕ) → product (whole m) (whole n) ≡ whole (m * n)
unfolding product
whole_product m n = same_number _ _ (omega (arith, ints)) (omega (arith, ints)) (omega (arith, ints)) (omega (arith, ints))

norms_evolved : (n : ℕ) (gates : List Gate) (v : ℕ → Omega) → All (Fits n) gates
    → norms n (evolved v (map operation_of gates)) ≡ product (whole (2 ^ total_weight gates)) (norms n v)
norms_evolved n [] v fit = sym (one_times (norms n v))
norms_evolved n (g ∷ gates) v fit =
    let w = weight_of g.kind in
    let rest = total_weight gates in
    let next = applied (number_in (matrix_of g.kind)) (wires g) v in
    let power : 2 ^ rest * 2 ^ w ≡ 2 ^ (w + rest) = let e = pow-add 2 w rest in omega arith in
    norms_evolved n gates next (All-tail (Fits n) g gates fit)
    ∙ ap (product (whole (2 ^ rest))) (norms_gate n g v (All-head (Fits n) g gates fit))
    ∙ sym (product_assoc (whole (2 ^ rest)) (whole (2 ^ w)) (norms n v))
    ∙ ap (λ t. product t (norms n v)) (whole_product (2 ^ rest) (2 ^ w) ∙ ap whole power)
    ∙ ap (λ k. product (whole (2 ^ k)) (norms n v)) (sym (sum_by-cons (λ (g : Gate). weight_of g.kind) g gates))

norm_one : norm unity ≡ unity
unfolding product
norm_one = refl

norms_ground : (n : ℕ) → norms n ground ≡ unity
norms_ground n = sum_below_one (2 ^ n) 0 (λ x. norm (ground x)) (pow_pos n) others ∙ norm_one
  where
    others : (k : ℕ) → k < 2 ^ n → k ≢ 0 → norm (ground k) ≡ nothing
    others zero l ne = absurd (ne refl)
    others (suc k) l ne = nothing_times _

-- after all gates the squared magnitudes add up to 2 ^ the weight
pub norms_uncut : (n : ℕ) (gates : List Gate) → All (Fits n) gates → norms n (uncut gates) ≡ whole (2 ^ total_weight gates)
norms_uncut n gates fit =
    norms_evolved n gates ground fit
    ∙ ap (product (whole (2 ^ total_weight gates))) (norms_ground n)
    ∙ whole_product (2 ^ total_weight gates) 1
    ∙ ap whole (omega arith)
