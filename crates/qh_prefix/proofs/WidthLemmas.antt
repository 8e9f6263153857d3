-- Each part of a job has 1 to 20 qubits.
use Rattle.std.proofs.Common.{◌≡◌, ◌==◌, ℕ, zero, suc, ◌+◌, ◌<◌, ◌≤◌, inl, inr, Bool, false, ◌||◌, List, [], ◌∷◌, length, arith, refl, sym, ap, ◌∙◌, All}
use Rattle.std.specs.List.{list_any, AllPairs}
use Rattle.std.proofs.lemmas.List.Kept.{AllPairs-from_increasing}
use Rattle.std.proofs.lemmas.List.Elements.{All-head, All-tail}
use Rattle.std.proofs.lemmas.List.Folds.{list_any_none}
use Rattle.std.proofs.lemmas.Bool.{cases_Bool, cases_eq, ne_eqb, eq-eqb}
use Rattle.qh_plan.specs.Parts.{others, count_below}
use Rattle.qh_plan.specs.Jobs.{Job, IsJob, in_one}
use Rattle.qh_plan.proofs.PartLemmas.{count_in, count_out}
use Rattle.qh_prefix.specs.declared.part.Part.{Part}
use Rattle.qh_prefix.specs.declared.part.Part.TheVariants.{One, Two}
use Rattle.qh_prefix.specs.Parts.{width}

-- each qubit lies in just one of the parts
counts_add : (one : ℕ → Bool) (n : ℕ) → count_below one n + count_below (others one) n ≡ n
counts_add one zero = refl
counts_add one (suc n) = elim (cases_Bool (one n)) [
  | inl e ↦ rw e (let h = counts_add one n in omega arith)
  | inr e ↦ rw e (let h = counts_add one n in omega arith)
]

count_none : (n : ℕ) → count_below (λ q. false) n ≡ 0
count_none zero = refl
count_none (suc n) = count_none n

-- one more qubit
with_one : (x : ℕ) (one : ℕ → Bool) → ℕ → Bool
with_one x one q = (x == q) || one q

count_same : (x : ℕ) (one : ℕ → Bool) (n : ℕ) → n ≤ x → count_below (with_one x one) n ≡ count_below one n
unfolding with_one
count_same x one zero l = refl
count_same x one (suc n) l =
    let e : (x == n) ≡ false = ne_eqb x n (λ same. absurd (omega arith)) in
    let h = count_same x one n (omega arith) in
    elim (cases_Bool (one n)) [
      | inl t ↦ count_in (with_one x one) n (ap (λ b. b || one n) e ∙ t) ∙ ap suc h ∙ sym (count_in one n t)
      | inr f ↦ count_out (with_one x one) n (ap (λ b. b || one n) e ∙ f) ∙ h ∙ sym (count_out one n f)
    ]

count_more : (x : ℕ) (one : ℕ → Bool) (n : ℕ) → x < n → one x ≡ false → count_below (with_one x one) n ≡ suc (count_below one n)
unfolding with_one
count_more x one zero l f = absurd (omega arith)
count_more x one (suc n) l f = elim (cases_eq x n) [
  | inl same ↦
      let g : one n ≡ false = ap one (sym same) ∙ f in
      count_in (with_one x one) n (ap (λ b. b || one n) (eq-eqb x n same)) ∙ ap suc (count_same x one n (omega arith)) ∙ ap suc (sym (count_out one n g))
  | inr apart ↦
      let e : (x == n) ≡ false = ne_eqb x n apart in
      let h = count_more x one n (omega arith) f in
      elim (cases_Bool (one n)) [
        | inl t ↦ count_in (with_one x one) n (ap (λ b. b || one n) e ∙ t) ∙ ap suc h ∙ ap suc (sym (count_in one n t))
        | inr g ↦ count_out (with_one x one) n (ap (λ b. b || one n) e ∙ g) ∙ h ∙ ap suc (sym (count_out one n g))
      ]
]

-- as many as the list names, where each is below the next
count_listed : (xs : List ℕ) (n : ℕ) → AllPairs (λ x y. x < y) xs → All (λ q. q < n) xs → count_below (λ q. list_any (λ k. k == q) xs) n ≡ length xs
unfolding with_one
count_listed [] n h below = count_none n
count_listed (x ∷ xs) n h below =
    let fresh : list_any (λ k. k == x) xs ≡ false = list_any_none (λ k. k == x) xs (λ k d l. ne_eqb _ x (λ same. let m = h 0 (suc k) d (omega arith) (omega arith) in absurd (omega arith))) in
    count_more x (λ q. list_any (λ k. k == q) xs) n (All-head (λ q. q < n) x xs below) fresh
    ∙ ap suc (count_listed xs n (λ i k d l m. h (suc i) (suc k) d (omega arith) (omega arith)) (All-tail (λ q. q < n) x xs below))

part_size : (j : Job) → IsJob j → count_below (in_one j) j.circuit.qubits ≡ length j.part
part_size j h = count_listed j.part j.circuit.qubits (AllPairs-from_increasing j.part h.rising) h.in_circuit

pub width_few : (part : Part) (j : Job) → IsJob j → width part j ≤ 20
width_few One j h = let n = h.narrow_one in let s = part_size j h in omega arith
width_few Two j h = let n = h.narrow_two in let s = part_size j h in let a = counts_add (in_one j) j.circuit.qubits in omega arith

pub width_some : (part : Part) (j : Job) → IsJob j → 1 ≤ width part j
width_some One j h = let n = h.some_in_one in let s = part_size j h in omega arith
width_some Two j h = let n = h.some_in_two in let s = part_size j h in let a = counts_add (in_one j) j.circuit.qubits in omega arith
