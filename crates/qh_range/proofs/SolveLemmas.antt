-- From the total of a run to what is asked.
use Rattle.std.proofs.Common.{◌≡◌, List, length, map, refl, sym, ap, ◌∙◌}
use Rattle.std.proofs.lemmas.List.{length-map}
use Rattle.qh_ring.specs.declared.number.Omega.{Omega}
use Rattle.qh_plan.specs.declared.verdict.Verdict.{Verdict}
use Rattle.qh_plan.specs.declared.verdict.Verdict.TheVariants.{Sum}
use Rattle.qh_plan.specs.Jobs.{Job, IsJob}
use Rattle.qh_plan.specs.Asked.{asked}
use Rattle.qh_plan.specs.Values.{run_value}
use Rattle.qh_plan.specs.Laws.{NoneOver}
use Rattle.qh_plan.proofs.OverLemmas.{names_least}
use Rattle.qh_plan.proofs.RunValueLemmas.{AllFit, has_cut, run_value_is}

sum_same : (s t : List Omega) → ◌≡◌ {A = Verdict} (Sum s) (Sum t) → s ≡ t
sum_same s t e = cc

-- sums that are the run's value are what is asked
pub sums_are_asked : (j : Job) (s : List Omega) → IsJob j → run_value j ≡ Sum s → s ≡ map (asked j) j.bits
sums_are_asked j s h e =
    let none : NoneOver j = (names_least j).sum s e in
    let fit : AllFit j = λ i k l m. none _ (record { range = i; place = k; range_below = l; place_below = m; is = refl }) in
    sum_same s _ (sym e ∙ run_value_is j (has_cut j h) fit)

pub sums_full : (j : Job) (s : List Omega) → IsJob j → run_value j ≡ Sum s → length s ≡ length j.bits
sums_full j s h e = ap (length {A = Omega}) (sums_are_asked j s h e) ∙ length-map j.bits (asked j)
