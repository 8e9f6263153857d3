-- The sums of a whole run are what its job asks for.
use Rattle.std.proofs.Common.{◌≡◌, ℕ, List, map, None, is_some, false, refl, sym, ap, ◌∙◌}
use Rattle.qh_ring.specs.declared.number.Omega.{Omega}
use Rattle.qh_plan.specs.declared.verdict.Verdict.{Verdict}
use Rattle.qh_plan.specs.declared.verdict.Verdict.TheVariants.{Sum}
use Rattle.qh_plan.specs.Jobs.{Job, IsJob}
use Rattle.qh_plan.specs.Values.{run_value}
use Rattle.qh_plan.specs.Asked.{asked}
use Rattle.qh_plan.specs.Laws.{NoneOver}
use Rattle.qh_plan.proofs.OverLemmas.{names_least}
use Rattle.qh_plan.proofs.RunValueLemmas.{AllFit, has_cut, run_value_is}
use Rattle.qh_words.specs.declared.options.Options.{Options}
use Rattle.qh_request.specs.Jobs.{keeping}

pub not_kept : (o : Options) → o.journal ≡ None → (keeping o).kept ≡ false
not_kept o e = ap (is_some {T = List ℕ}) e

sum_same : (s t : List Omega) → ◌≡◌ {A = Verdict} (Sum s) (Sum t) → s ≡ t
sum_same s t e = cc

pub none_over : (j : Job) (s : List Omega) → run_value j ≡ Sum s → NoneOver j
none_over j s e = (names_least j).sum s e

-- sums that are the run's value are what is asked
pub sums_are_asked : (j : Job) (s : List Omega) → IsJob j → run_value j ≡ Sum s → s ≡ map (asked j) j.bits
sums_are_asked j s is e =
    let fit : AllFit j = λ i k l m. none_over j s e _ (record { range = i; place = k; range_below = l; place_below = m; is = refl }) in
    sum_same s _ (sym e ∙ run_value_is j (has_cut j is) fit)
