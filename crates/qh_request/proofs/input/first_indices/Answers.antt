use Rattle.std.proofs.Common.{◌++◌, ◌∷◌, [], sym, ap, ◌∙◌}
use Rattle.qh_request.proofs.FirstIndices.{range_more}
use Rattle.qh_request.proofs.input.first_indices.Goals as goal

pub loop-index-preserved : goal.loop-index-preserved
loop-index-preserved c = c.in_ok-push.ensures.items ∙ ap (λ t. t ++ c.loop-index.index ∷ []) c.loop-index.invariant ∙ sym (range_more c.loop-index.index)
