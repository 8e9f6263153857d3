use Rattle.std.proofs.Common.{sym}
use Rattle.qh_plan.proofs.RunValueLemmas.{has_cut, contribution_is}
use Rattle.qh_plan.proofs.meaning.path_is_the_product_of_its_halves.Goals as goal

pub returns : goal.returns
returns c = λ j h k b l. sym (contribution_is j (has_cut j h) k b l)
