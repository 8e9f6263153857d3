use Rattle.std.proofs.Common.{◌^◌, min, refl, sym, ap, subst, ◌∙◌}
use Rattle.qh_plan.specs.Plans.{AreBits}
use Rattle.qh_request.specs.Inputs.{first_indices}
use Rattle.qh_request.proofs.FirstIndices.{first_bits}
use Rattle.qh_request.proofs.input.generated.Goals as goal

pub returns-clause-indices : goal.returns-clause-indices
returns-clause-indices c =
    let q = c.in_ok-circuit.circuit.qubits in
    subst (AreBits q) (sym (c.in_ok-indices.ensures ∙ ap first_indices c.qubits.ensures.value)) (first_bits q (min (2 ^ q) 8) refl)
