use Rattle.std.proofs.Common.{refl}
use Rattle.qh_plan.proofs.RunValueLemmas.{AllFit, has_cut, few_run, run_value_is, run_within}
use Rattle.qh_plan.proofs.meaning.run_answers_what_is_asked.Goals as goal

pub returns : goal.returns
returns c = λ j h none.
    let fit : AllFit j = λ i k l m. none _ (record { range = i; place = k; range_below = l; place_below = m; is = refl }) in
    record { value = run_value_is j (has_cut j h) fit; within = run_within j (has_cut j h) (few_run j h) fit }
