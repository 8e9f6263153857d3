use Rattle.qh_plan.specs.Jobs.{in_one}
use Rattle.qh_plan.proofs.PathValueLemmas.{sum_of_paths}
use Rattle.qh_plan.proofs.RunValueLemmas.{has_cut}
use Rattle.qh_plan.proofs.meaning.paths_add_up_to_the_uncut_state.Goals as goal

pub returns : goal.returns
returns c = λ j h b. let cut = has_cut j h in sum_of_paths (in_one j) j.circuit.gates b cut.cut
