-- The qubits below m as part 1.
use Rattle.std.proofs.Common.{◌≡◌, ◌≢◌, ◌==◌, ℕ, zero, suc, ◌+◌, ◌-◌, ◌<◌, ◌≤◌, inl, inr, Bool, true, false, cond, nat_lt, nat_le, ◌||◌, List, [], ◌∷◌, ◌++◌, length, Option, Some, None, arith, refl, sym, ap, subst, ◌∙◌}
use Rattle.std.specs.List.{list_any, range_with_len}
use Rattle.std.proofs.lemmas.Bool.{cases_lt, cases_eq, cond-true, cond-false, lt-ltb, le-ltb, lt-leb, le-leb, eq-eqb, ne_eqb}
use Rattle.std.proofs.lemmas.List.{length_push}
use Rattle.qh_gates.specs.declared.gate.Gate.{Gate}
use Rattle.qh_gates.specs.Terms.{terms_of}
use Rattle.qh_plan.specs.declared.fault.PlanFault.{PlanFault}
use Rattle.qh_plan.specs.declared.fault.PlanFault.TheVariants.{NoSuchQubit, QubitTwice}
use Rattle.qh_plan.specs.Paths.{crosses, radices}
use Rattle.qh_plan.specs.Plans.{rising, item_fault}
use Rattle.qh_planner.specs.Cuts.{first_qubits}
use Rattle.qh_planner.specs.Counts.{below}

-- the qubits from a on, one more at the end
pub range_push : (a n : ℕ) → range_with_len a (n + 1) ≡ range_with_len a n ++ (a + n) ∷ []
range_push a zero = ap (λ (k : ℕ). k ∷ []) (omega arith)
range_push a (suc n) =
    let e : suc n + 1 ≡ suc (n + 1) = omega arith in
    let f : a + 1 + n ≡ a + suc n = omega arith in
    ap (range_with_len a) e ∙ ap (λ (t : List ℕ). a ∷ t) (range_push (a + 1) n ∙ ap (λ (k : ℕ). range_with_len (a + 1) n ++ k ∷ []) f)

pub range_end : (n : ℕ) → range_with_len 0 (n + 1) ≡ range_with_len 0 n ++ n ∷ []
range_end n = range_push 0 n ∙ ap (λ (k : ℕ). range_with_len 0 n ++ k ∷ []) (omega arith)

pub range_length : (a n : ℕ) → length (range_with_len a n) ≡ n
range_length a zero = refl
range_length a (suc n) = ap suc (range_length (a + 1) n)

-- the numbers from a on, n of them, hold q where it is not below a and below a + n
range_within : (a n q : ℕ) → a ≤ q → q < a + n → list_any (λ k. k == q) (range_with_len a n) ≡ true
range_within a zero q l m = absurd (omega arith)
range_within a (suc n) q l m = elim (cases_eq a q) [
  | inl e ↦ first (a == q) _ (eq-eqb a q e)
  | inr ne ↦ rest (a == q) _ (range_within (a + 1) n q (omega arith) (omega arith))
]
  where
    first : (s t : Bool) → s ≡ true → (s || t) ≡ true
    first s t e = rw e refl

    rest : (s t : Bool) → t ≡ true → (s || t) ≡ true
    rest true t e = refl
    rest false t e = e

range_without : (a n q : ℕ) → (q < a + n → q < a) → list_any (λ k. k == q) (range_with_len a n) ≡ false
range_without a zero q h = refl
range_without a (suc n) q h =
    neither (a == q) _ (ne_eqb a q (λ e. not_below a q n e h)) (range_without (a + 1) n q (λ l. not_in a q n h l))
  where
    neither : (s t : Bool) → s ≡ false → t ≡ false → (s || t) ≡ false
    neither s t e f = rw e f

    not_below : (a q n : ℕ) → a ≡ q → (q < a + suc n → q < a) → ⊥
    not_below a q n e h = let l = h (omega arith) in omega arith

    not_in : (a q n : ℕ) → (q < a + suc n → q < a) → q < a + 1 + n → q < a + 1
    not_in a q n h l = let m = h (omega arith) in omega arith

-- the qubits below m are those that pass the test
pub first_are : (m q : ℕ) → list_any (λ k. k == q) (first_qubits m) ≡ below m q
first_are m q = elim (cases_lt q m) [
  | inl l ↦ range_within 0 m q (omega arith) (omega arith) ∙ sym (lt-ltb q m l)
  | inr l ↦ range_without 0 m q (λ b. absurd (omega arith)) ∙ sym (le-ltb q m l)
]

-- no item is a fault
no_fault : (n a k : ℕ) → a + k ≤ n → item_fault n (range_with_len 0 a) (range_with_len a k) ≡ None
no_fault n a zero l = refl
no_fault n a (suc k) l =
    cond-false (nat_le n a) _ _ (lt-leb n a (omega arith))
    ∙ cond-false (list_any (λ i. i == a) (range_with_len 0 a)) _ _ (range_without 0 a a (λ b. omega arith))
    ∙ ap (λ (t : List ℕ). item_fault n t (range_with_len (a + 1) k)) (sym (range_end a))
    ∙ no_fault n (a + 1) k (omega arith)

pub no_item_fault : (n m : ℕ) → m ≤ n → item_fault n [] (first_qubits m) ≡ None
no_item_fault n m l = no_fault n 0 m (omega arith)

-- in rising order they are themselves
all_rising : (n m : ℕ) → n ≤ m → rising n (first_qubits m) ≡ first_qubits n
all_rising zero m l = refl
all_rising (suc n) m l =
    let e : n + 1 ≡ suc n = omega arith in
    cond-true (list_any (λ k. k == n) (first_qubits m)) _ _ (first_are m n ∙ lt-ltb n m (omega arith))
    ∙ ap (λ (t : List ℕ). t ++ n ∷ []) (all_rising n m (omega arith))
    ∙ sym (range_end n) ∙ ap (range_with_len 0) e

pub rising_first : (n m : ℕ) → m ≤ n → rising n (first_qubits m) ≡ first_qubits m
rising_first zero m l = let e : m ≡ 0 = omega arith in ap first_qubits (sym e)
rising_first (suc n) m l = elim (cases_eq m (suc n)) [
  | inl e ↦ all_rising (suc n) m (omega arith) ∙ ap first_qubits (sym e)
  | inr ne ↦
      cond-false (list_any (λ k. k == n) (first_qubits m)) _ _ (first_are m n ∙ le-ltb n m (omega arith))
      ∙ rising_first n m (omega arith)
]

-- so the crossing gates are those with one qubit below m
same_crosses : (one two : ℕ → Bool) (g : Gate) → ((q : ℕ) → one q ≡ two q) → crosses one g ≡ crosses two g
same_crosses one two g h = rw (h g.q0, h g.q1) refl

pub same_radices : (one two : ℕ → Bool) (gs : List Gate) → ((q : ℕ) → one q ≡ two q) → radices one gs ≡ radices two gs
same_radices one two [] h = refl
same_radices one two (g ∷ gs) h =
    ap (λ (t : Bool). cond t (length (terms_of g.kind) ∷ radices one gs) (radices one gs)) (same_crosses one two g h)
    ∙ ap (λ (t : List ℕ). cond (crosses two g) (length (terms_of g.kind) ∷ t) t) (same_radices one two gs h)
