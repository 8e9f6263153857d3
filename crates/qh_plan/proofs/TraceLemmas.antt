-- A half gate by gate, and where a list of gates is cut in two.
use Rattle.std.proofs.Common.{◌≡◌, ℕ, zero, suc, inl, inr, Bool, true, ◌&&◌, List, [], ◌∷◌, ◌++◌, length, drop, Some, None, arith, refl, sym, ap, ◌∙◌}
use Rattle.std.proofs.lemmas.Bool.{cases_Bool}
use Rattle.qh_ring.specs.declared.number.Omega.{Omega}
use Rattle.qh_ring.specs.States.{applied}
use Rattle.qh_gates.specs.declared.gate.Gate.{Gate}
use Rattle.qh_gates.specs.Evolution.{Operation, evolved}
use Rattle.qh_plan.specs.Paths.{crosses, radices}
use Rattle.qh_plan.specs.PathValues.{first_digit, other_digits}
use Rattle.qh_plan.specs.Halves.{factor_operation, local_operation, half_operations}
use Rattle.qh_plan.specs.MeaningLimits.{state_fits, trace_fits}
use Rattle.qh_plan.specs.Traces.{kept_where, half_after}

pub evolved_append : (v : ℕ → Omega) (os ps : List Operation) → evolved v (os ++ ps) ≡ evolved (evolved v os) ps
evolved_append v [] ps = refl
evolved_append v (o ∷ os) ps = evolved_append (applied o.matrix o.qubits v) os ps

after_none : (n : ℕ) (os : List Operation) → half_after n None os ≡ None
after_none n [] = refl
after_none n (o ∷ os) = after_none n os

-- a half is the evolved state where its trace fits, and else none
pub half_after_is : (n : ℕ) (v : ℕ → Omega) (os : List Operation) → half_after n (Some v) os ≡ kept_where (trace_fits n v os) (evolved v os)
half_after_is n v [] = refl
half_after_is n v (o ∷ os) =
    let w = applied o.matrix o.qubits v in
    elim (cases_Bool (state_fits n w)) [
      | inl e ↦ ap (λ t. half_after n (kept_where t w) os) e ∙ half_after_is n w os ∙ ap (λ t. kept_where (t && trace_fits n w os) (evolved w os)) (sym e)
      | inr e ↦ ap (λ t. half_after n (kept_where t w) os) e ∙ after_none n os ∙ ap (λ t. kept_where (t && trace_fits n w os) (evolved w os)) (sym e)
    ]

-- ---- gates one after another
drop_other : (c : ℕ) (ds : List ℕ) → drop c (other_digits ds) ≡ drop (suc c) ds
drop_other zero [] = refl
drop_other (suc c) [] = refl
drop_other c (d ∷ ds) = refl

pub half_append : (one : ℕ → Bool) (xs ys : List Gate) (ds : List ℕ)
    → half_operations one (xs ++ ys) ds ≡ half_operations one xs ds ++ half_operations one ys (drop (length (radices one xs)) ds)
half_append one [] ys ds = refl
half_append one (g ∷ gs) ys ds = elim (cases_Bool (crosses one g)) [
  | inl e ↦ rw e (ap (λ os. factor_operation one g (first_digit ds) ∷ os)
      (half_append one gs ys (other_digits ds) ∙ ap (λ t. half_operations one gs (other_digits ds) ++ half_operations one ys t) (drop_other (length (radices one gs)) ds)))
  | inr e ↦ elim (cases_Bool (one g.q0)) [
    | inl a ↦ rw (e, a) (ap (λ os. local_operation one g ∷ os) (half_append one gs ys ds))
    | inr a ↦ rw (e, a) (half_append one gs ys ds)
  ]
]

-- only the digits of its own crossing gates matter
pub half_takes : (one : ℕ → Bool) (xs : List Gate) (ds es : List ℕ) → length ds ≡ length (radices one xs)
    → half_operations one xs (ds ++ es) ≡ half_operations one xs ds
half_takes one [] ds es h = refl
half_takes one (g ∷ gs) ds es h = elim (cases_Bool (crosses one g)) [
  | inl e ↦ crossing ds (rw e at h) e (λ ds k. half_takes one gs ds es k)
  | inr e ↦ elim (cases_Bool (one g.q0)) [
    | inl a ↦ rw (e, a) (ap (λ os. local_operation one g ∷ os) (half_takes one gs ds es (rw e at h)))
    | inr a ↦ rw (e, a) (half_takes one gs ds es (rw e at h))
  ]
]
  where
    crossing : (ds : List ℕ) → length ds ≡ suc (length (radices one gs)) → crosses one g ≡ true
        → ((ds : List ℕ) → length ds ≡ length (radices one gs) → half_operations one gs (ds ++ es) ≡ half_operations one gs ds)
        → half_operations one (g ∷ gs) (ds ++ es) ≡ half_operations one (g ∷ gs) ds
    crossing [] h e i = absurd (omega arith)
    crossing (d ∷ ds) h e i = rw e (ap (λ os. factor_operation one g d ∷ os) (i ds (omega arith)))
