use Rattle.std.proofs.Common.{◌^◌, ◌≤◌, ℕ, sym, subst}
use Rattle.qh_planner.proofs.CountLemmas.{few_numbers}
use Rattle.qh_planner.proofs.refusal.numbers.Goals as goal

pub returns-clause-small : goal.returns-clause-small
returns-clause-small c = subst (λ (t : ℕ). t ≤ 2 ^ 20) (sym c.power.ensures.value) (few_numbers c.args.qubits c.requires)
