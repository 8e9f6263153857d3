use Rattle.qh_plan.specs.Paths.{radices}
use Rattle.qh_plan.proofs.CutLemmas.{radices_known}
use Rattle.qh_plan.proofs.PlanLemmas.{singles}
use Rattle.qh_plan.proofs.DigitLemmas.{count_power}
use Rattle.qh_plan.proofs.laws.path_counts_are_powers_of_two.Goals as goal

pub returns : goal.returns
returns c = λ v one h. count_power (radices one v.gates) (radices_known one v.gates (singles v.qubits v.gates h.fit))
