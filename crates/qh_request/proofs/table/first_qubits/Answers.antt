use Rattle.std.proofs.Common.{◌++◌, ◌∷◌, [], sym, ap, ◌∙◌}
use Rattle.qh_request.proofs.FirstIndices.{range_more}
use Rattle.qh_request.proofs.table.first_qubits.Goals as goal

pub loop-qubit-preserved : goal.loop-qubit-preserved
loop-qubit-preserved c = c.in_ok-push.ensures.items ∙ ap (λ t. t ++ c.loop-qubit.qubit ∷ []) c.loop-qubit.invariant ∙ sym (range_more c.loop-qubit.qubit)
