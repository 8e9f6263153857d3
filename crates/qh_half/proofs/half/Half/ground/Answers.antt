use Rattle.std.proofs.Common.{◌≡◌, List, ap, subst, sym, ◌∙◌, arith}
use Rattle.std.specs.Prelude.{Some}
use Rattle.qh_ring.specs.declared.number.Omega.{Omega}
use Rattle.qh_narrow.proofs.FactorLemmas.{no_factor}
use Rattle.qh_half.specs.declared.form.Form.TheVariants.{Narrow16}
use Rattle.qh_half.specs.declared.places.Places.{Places}
use Rattle.qh_half.specs.Forms.{held, IsKept}
use Rattle.qh_half.specs.Halves.{Half, IsVector}
use Rattle.qh_half.proofs.FormLemmas.{vector_ground}
use Rattle.qh_half.proofs.half.Half.ground.Goals as goal

pub invariant_of-result : goal.invariant_of-result
invariant_of-result c =
    let boxed : c.in_ok-places.places.value ≡ c.in_ok-ground.ground = c.in_ok-places.ensures.ok in
    let kept : IsKept c.args.qubits (Narrow16 0) c.in_ok-ground.ground = record {
      alike = c.in_ok-ground.ensures.places;
      roots = omega arith;
      vector = subst (λ (v : List Omega). IsVector c.args.qubits v) (sym (no_factor c.in_ok-ground.ground.narrow16.numbers ∙ c.in_ok-ground.ensures.numbers)) (vector_ground c.args.qubits);
    } in
    subst (λ (p : Places). IsKept c.args.qubits (Narrow16 0) p) (sym boxed) kept

pub returns : goal.returns
returns c =
    let boxed : c.in_ok-places.places.value ≡ c.in_ok-ground.ground = c.in_ok-places.ensures.ok in
    let view : List Omega → Half = λ v. record { qubits = c.args.qubits; numbers = Some v } in
    let of : Places → Half = λ p. record { qubits = c.args.qubits; numbers = held (Narrow16 0) p } in
    ap of boxed ∙ ap view (no_factor c.in_ok-ground.ground.narrow16.numbers ∙ c.in_ok-ground.ensures.numbers)
