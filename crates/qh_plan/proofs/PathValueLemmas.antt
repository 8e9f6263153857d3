-- The paths of a cut add up to the uncut evolution.
use Rattle.std.proofs.Common.{◌≡◌, ℕ, ◌+◌, ◌*◌, ◌%◌, ◌<◌, inl, inr, Bool, true, false, eqb, List, [], ◌∷◌, length, map, refl, sym, ap, ◌∙◌}
use Rattle.std.proofs.Math.Path.{fun_ext}
use Rattle.std.proofs.lemmas.Nat.{div-mul-add, mod-mul-add}
use Rattle.std.proofs.lemmas.Bool.{cases_Bool, eq-eqb}
use Rattle.std.specs.List.{All}
use Rattle.std.proofs.lemmas.List.Elements.{All-head, All-tail}
use Rattle.qh_ring.specs.declared.number.Omega.{Omega}
use Rattle.qh_ring.specs.Matrices.{number_in}
use Rattle.qh_ring.specs.States.{sum_below, applied, ground}
use Rattle.qh_gates.specs.declared.gate.Gate.{Gate}
use Rattle.qh_gates.specs.Tables.{qubits_of, matrix_of}
use Rattle.qh_gates.specs.Terms.{terms_of, term_at, term_matrix}
use Rattle.qh_gates.specs.Evolution.{Operation, evolved, operation_of, uncut, wires}
use Rattle.qh_plan.specs.Paths.{crosses, radices, path_count, path_digits}
use Rattle.qh_plan.specs.PathValues.{term_operation, path_operations, path_state}
use Rattle.qh_ring.proofs.SumLemmas.{sum_below_same, sum_below_blocks, nothing_sum}
use Rattle.qh_ring.proofs.StateLemmas.{applied_matrix, applied_sum_matrix, applied_sum_state}
use Rattle.qh_gates.proofs.TermLemmas.{terms_add}

pub evolved_sum : (n : ℕ) (os : List Operation) (v : ℕ → ℕ → Omega) (x : ℕ)
    → evolved (λ y. sum_below n (λ t. v t y)) os x ≡ sum_below n (λ t. evolved (v t) os x)
evolved_sum n [] v x = refl
evolved_sum n (o ∷ os) v x =
    ap (λ w. evolved w os x) (fun_ext (λ y. applied_sum_state n o.matrix o.qubits v y))
    ∙ evolved_sum n os (λ t. applied o.matrix o.qubits (v t)) x

-- the first digit, and those of the rest
digits_more : (r t j : ℕ) (rs : List ℕ) → j < path_count rs → path_digits (r ∷ rs) (t * path_count rs + j) ≡ t ∷ path_digits rs j
digits_more r t j rs l =
    ap (λ d. d ∷ path_digits rs ((t * path_count rs + j) % path_count rs)) (div-mul-add t (path_count rs) j l)
    ∙ ap (λ k. t ∷ path_digits rs k) (mod-mul-add t (path_count rs) j l)

-- ---- the sum over all paths of a function of the digits
pub sum_paths_more : (r : ℕ) (rs : List ℕ) (f : List ℕ → Omega)
    → sum_below (r * path_count rs) (λ k. f (path_digits (r ∷ rs) k)) ≡ sum_below r (λ t. sum_below (path_count rs) (λ j. f (t ∷ path_digits rs j)))
sum_paths_more r rs f =
    sum_below_blocks r (path_count rs) (λ k. f (path_digits (r ∷ rs) k))
    ∙ sum_below_same r _ _ (λ t l. sum_below_same (path_count rs) _ _ (λ j m. ap f (digits_more r t j rs m)))

-- a crossing gate's matrix is the sum of its terms'
split_gate : (g : Gate) (v : ℕ → Omega) (x : ℕ) → qubits_of g.kind ≡ 2
    → sum_below (length (terms_of g.kind)) (λ t. applied (term_matrix (term_at g.kind t)) (g.q0 ∷ g.q1 ∷ []) v x) ≡ applied (number_in (matrix_of g.kind)) (wires g) v x
split_gate g v x two =
    sym (applied_sum_matrix (length (terms_of g.kind)) (λ t. term_matrix (term_at g.kind t)) (g.q0 ∷ g.q1 ∷ []) v x)
    ∙ applied_matrix _ (number_in (matrix_of g.kind)) (g.q0 ∷ g.q1 ∷ []) v x (λ i j a b. terms_add g.kind two i a j b)
    ∙ ap (λ qs. applied (number_in (matrix_of g.kind)) qs v x) (sym (two_wires g two))
  where
    two_wires : (g : Gate) → qubits_of g.kind ≡ 2 → wires g ≡ g.q0 ∷ g.q1 ∷ []
    two_wires g e = let t : eqb (qubits_of g.kind) 2 ≡ true = eq-eqb _ _ e in rw t refl

-- a crossing gate has two qubits
unfoldable pub IsCut : (ℕ → Bool) → Gate → Type 0
IsCut one g = crosses one g ≡ true → qubits_of g.kind ≡ 2

radices_in : (one : ℕ → Bool) (g : Gate) (gs : List Gate) → crosses one g ≡ true → radices one (g ∷ gs) ≡ length (terms_of g.kind) ∷ radices one gs
radices_in one g gs e = rw e refl

radices_out : (one : ℕ → Bool) (g : Gate) (gs : List Gate) → crosses one g ≡ false → radices one (g ∷ gs) ≡ radices one gs
radices_out one g gs e = rw e refl

operations_in : (one : ℕ → Bool) (g : Gate) (gs : List Gate) (t : ℕ) (ds : List ℕ) → crosses one g ≡ true
    → path_operations one (g ∷ gs) (t ∷ ds) ≡ term_operation g t ∷ path_operations one gs ds
operations_in one g gs t ds e = rw e refl

operations_out : (one : ℕ → Bool) (g : Gate) (gs : List Gate) (ds : List ℕ) → crosses one g ≡ false
    → path_operations one (g ∷ gs) ds ≡ operation_of g ∷ path_operations one gs ds
operations_out one g gs ds e = rw e refl

-- the sum over all paths is the uncut evolution, from any state
sum_from : (one : ℕ → Bool) (gs : List Gate) (v : ℕ → Omega) (x : ℕ) → All (IsCut one) gs
    → sum_below (path_count (radices one gs)) (λ k. evolved v (path_operations one gs (path_digits (radices one gs) k)) x) ≡ evolved v (map operation_of gs) x
unfolding IsCut
sum_from one [] v x cut = nothing_sum (v x)
sum_from one (g ∷ gs) v x cut = elim (cases_Bool (crosses one g)) [
  | inl e ↦
      let r = length (terms_of g.kind) in
      let rs = radices one gs in
      let two : qubits_of g.kind ≡ 2 = All-head (IsCut one) g gs cut e in
      let m = λ (t : ℕ). term_matrix (term_at g.kind t) in
      ap (λ qs. sum_below (path_count qs) (λ k. evolved v (path_operations one (g ∷ gs) (path_digits qs k)) x)) (radices_in one g gs e)
      ∙ sum_paths_more r rs (λ ds. evolved v (path_operations one (g ∷ gs) ds) x)
      ∙ sum_below_same r _ _ (λ t l.
      sum_below_same (path_count rs) _ _ (λ j b. ap (λ os. evolved v os x) (operations_in one g gs t (path_digits rs j) e))
      ∙ sum_from one gs (applied (m t) (g.q0 ∷ g.q1 ∷ []) v) x (All-tail (IsCut one) g gs cut))
      ∙ sym (evolved_sum r (map operation_of gs) (λ t. applied (m t) (g.q0 ∷ g.q1 ∷ []) v) x)
      ∙ ap (λ w. evolved w (map operation_of gs) x) (fun_ext (λ y. split_gate g v y two))
  | inr e ↦
      ap (λ qs. sum_below (path_count qs) (λ k. evolved v (path_operations one (g ∷ gs) (path_digits qs k)) x)) (radices_out one g gs e)
      ∙ sum_below_same (path_count (radices one gs)) _ _ (λ k l. ap (λ os. evolved v os x) (operations_out one g gs (path_digits (radices one gs) k) e))
      ∙ sum_from one gs (applied (number_in (matrix_of g.kind)) (wires g) v) x (All-tail (IsCut one) g gs cut)
]

-- the sum over all paths is the uncut state
pub sum_of_paths : (one : ℕ → Bool) (gates : List Gate) (x : ℕ) → All (IsCut one) gates
    → sum_below (path_count (radices one gates)) (λ k. path_state one gates (path_digits (radices one gates) k) x) ≡ uncut gates x
sum_of_paths one gates x cut = sum_from one gates ground x cut
