-- One path, from its two halves.
use Rattle.std.proofs.Common.{◌≡◌, ℕ, ◌⊎◌, inl, inr, Bool, true, false, ◌&&◌, List, map, Option, Some, None, refl, sym, ap, subst, ◌∙◌}
use Rattle.std.proofs.Math.Path.{ap₂, fun_ext}
use Rattle.std.specs.Option.{IsNone}
use Rattle.std.specs.List.{list_all}
use Rattle.std.proofs.lemmas.Bool.{false≢true, and_left, and_right}
use Rattle.qh_ring.specs.declared.number.Omega.{Omega}
use Rattle.qh_ring.specs.Numbers.{product}
use Rattle.qh_ring.specs.States.{listed, ground}
use Rattle.qh_ring.proofs.ListedLemmas.{at_listed}
use Rattle.qh_gates.specs.Evolution.{Operation, evolved}
use Rattle.qh_plan.specs.Parts.{local_index}
use Rattle.qh_plan.specs.Jobs.{Job, digits_of}
use Rattle.qh_plan.specs.Verdicts.{added}
use Rattle.qh_plan.specs.Halves.{half_operations, half_state, half_amplitude, half_one, half_two, contribution}
use Rattle.qh_plan.specs.MeaningLimits.{trace_fits, half_fits, are_narrow, path_fits}
use Rattle.qh_plan.specs.Traces.{kept_where, half_after, HoldsHalf}
use Rattle.qh_plan.proofs.TraceLemmas.{half_after_is}
use Rattle.qh_plan.proofs.PartLemmas.{local_below}
use Rattle.qh_prefix.specs.declared.part.Part.{Part}
use Rattle.qh_prefix.specs.declared.part.Part.TheVariants.{One, Two}
use Rattle.qh_prefix.specs.Parts.{in_part, width}
use Rattle.qh_range.specs.Sides.{at_half, number_at}

kept : (n : ℕ) (b : Bool) (v : ℕ → Omega) (numbers : Option (List Omega)) → HoldsHalf n (kept_where b v) numbers
    → ((b ≡ true) × (numbers ≡ Some (listed n v))) ⊎ ((b ≡ false) × (numbers ≡ None))
kept n true v numbers h = inl (refl, h)
kept n false v numbers h = inr (refl, h)

-- what a half holds after these operations: the state where each fitted, and else none
half_result : (n : ℕ) (os : List Operation) (numbers : Option (List Omega)) → HoldsHalf n (half_after n (Some ground) os) numbers
    → ((trace_fits n ground os ≡ true) × (numbers ≡ Some (listed n (evolved ground os)))) ⊎ ((trace_fits n ground os ≡ false) × (numbers ≡ None))
half_result n os numbers h = kept n (trace_fits n ground os) (evolved ground os) numbers (subst (λ o. HoldsHalf n o numbers) (half_after_is n ground os) h)

-- the half of a part after the path of these digits
module _ (part : Part) (j : Job) (k : ℕ) (ds : List ℕ) (numbers : Option (List Omega)) (path : ds ≡ digits_of j k)
    (holds : HoldsHalf (width part j) (half_after (width part j) (Some ground) (half_operations (in_part part j) j.circuit.gates ds)) numbers) where
  result : ((half_fits (in_part part j) j k ≡ true) × (numbers ≡ Some (listed (width part j) (half_state (in_part part j) j.circuit.gates (digits_of j k)))))
      ⊎ ((half_fits (in_part part j) j k ≡ false) × (numbers ≡ None))
  result = half_result (width part j) (half_operations (in_part part j) j.circuit.gates (digits_of j k)) numbers
      (subst (λ ds. HoldsHalf (width part j) (half_after (width part j) (Some ground) (half_operations (in_part part j) j.circuit.gates ds)) numbers) path holds)

  pub over_half : IsNone numbers → half_fits (in_part part j) j k ≡ false
  over_half o = elim result [ inl e ↦ absurd (false≢true (sym (subst IsNone e.1 o))) | inr e ↦ e.0 ]

  pub held_half : (IsNone numbers → ⊥) → (half_fits (in_part part j) j k ≡ true) × (numbers ≡ Some (listed (width part j) (half_state (in_part part j) j.circuit.gates (digits_of j k))))
  held_half o = elim result [ inl e ↦ e | inr e ↦ absurd (o (subst IsNone (sym e.1) refl)) ]

-- the number that a part's half holds at a bitstring is its half amplitude there
at_bits : (part : Part) (j : Job) (k b : ℕ) (numbers : Option (List Omega)) → numbers ≡ Some (listed (width part j) (half_state (in_part part j) j.circuit.gates (digits_of j k)))
    → number_at part j numbers b ≡ half_amplitude (in_part part j) j k b
at_bits part j k b numbers e =
    let i = local_index (in_part part j) j.circuit.qubits b in
    ap (λ o. at_half o i) e ∙ at_listed (width part j) (half_state (in_part part j) j.circuit.gates (digits_of j k)) i (local_below (in_part part j) j.circuit.qubits b)

pub not_first : (j : Job) (k : ℕ) → half_fits (in_part One j) j k ≡ false → false ≡ path_fits j k
unfolding path_fits
not_first j k e = sym (and_left _ _ e)

pub not_second : (j : Job) (k : ℕ) → half_fits (in_part Two j) j k ≡ false → false ≡ path_fits j k
unfolding path_fits
not_second j k e = sym (and_right _ _ (and_left _ _ e))

module _ (j : Job) (k : ℕ) (first second : Option (List Omega))
    (e : first ≡ Some (listed (width One j) (half_state (in_part One j) j.circuit.gates (digits_of j k))))
    (f : second ≡ Some (listed (width Two j) (half_state (in_part Two j) j.circuit.gates (digits_of j k)))) where
  pub fits_both : (r : Bool) → half_fits (in_part One j) j k ≡ true → half_fits (in_part Two j) j k ≡ true
      → r ≡ list_all (λ b. are_narrow (number_at One j first b) (number_at Two j second b)) j.bits
      → r ≡ path_fits j k
  unfolding path_fits
  fits_both r s t h =
      h ∙ ap (λ p. list_all p j.bits) (fun_ext (λ b. ap₂ are_narrow (at_bits One j k b first e) (at_bits Two j k b second f)))
      ∙ ap₂ (λ x y. x && (y && list_all (λ b. are_narrow (half_one j k b) (half_two j k b)) j.bits)) (sym s) (sym t)

  pub sums_both : (old new : List Omega)
      → new ≡ added old (map (λ b. product (number_at One j first b) (number_at Two j second b)) j.bits)
      → new ≡ added old (map (contribution j k) j.bits)
  sums_both old new h =
      h ∙ ap (λ p. added old (map p j.bits)) (fun_ext (λ b. ap₂ product (at_bits One j k b first e) (at_bits Two j k b second f)))
