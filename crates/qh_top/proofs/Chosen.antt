-- The part 1 that a table of cuts gives.
use Rattle.std.proofs.Common.{◌≡◌, ◌⊎◌, ℕ, Bool, true, false, inl, inr, List, All, sym, subst}
use Rattle.std.proofs.lemmas.Bool.{false≢true}
use Rattle.qh_gates.specs.Circuits.{Circuit}
use Rattle.qh_plan.specs.declared.fault.PlanFault.{PlanFault}
use Rattle.qh_planner.specs.Cuts.{first_qubits}
use Rattle.qh_planner.specs.Choice.{IsCheapest, IsRefused}
use Rattle.qh_planner.specs.declared.row.CutRow.{CutRow}
use Rattle.qh_planner.proofs.ChoiceLemmas.{chosen_best, none_allowed}
use Rattle.qh_words.specs.declared.options.Options.{Options}
use Rattle.qh_request.specs.declared.stop.Refusal.TheVariants.{NoCut}
use Rattle.qh_request.specs.declared.stop.Stop.{Stop}
use Rattle.qh_request.specs.declared.stop.Stop.TheVariants.{Refused, Memory}
use Rattle.qh_request.specs.Chosen.{cut_asked, IsPartBy, IsTableBy, NoneAllowed}
use Rattle.qh_request.specs.Parts.{PlanMayStop}

-- the cheapest row gives part 1
pub part_chosen : (auto : Bool) → auto ≡ true → (o : Options) (part : List ℕ) (c : Circuit) (xs : List ℕ) (rows : List CutRow) → IsTableBy auto o c xs rows → (items : List ℕ)
    → (m : ℕ) × (units : ℕ) × IsCheapest rows m units × (items ≡ first_qubits m) → IsPartBy auto o part c xs items
part_chosen true e o part c xs rows table items k = (k.0, chosen_best (cut_asked o c xs) rows k.0 k.1 table k.2, k.3)
part_chosen false e o part c xs rows table items k = absurd (false≢true e)

none_chosen : (auto : Bool) → auto ≡ true → (o : Options) (c : Circuit) (xs : List ℕ) (rows : List CutRow) → IsTableBy auto o c xs rows → All IsRefused rows → NoneAllowed o c xs
none_chosen true e o c xs rows table refused = λ m some less. none_allowed (cut_asked o c xs) rows m table refused some less
none_chosen false e o c xs rows table refused = absurd (false≢true e)

-- or there is none
pub choice_stops : (P : PlanFault → Type 0) (auto : Bool) → auto ≡ true → (o : Options) (c : Circuit) (xs : List ℕ) (rows : List CutRow) → IsTableBy auto o c xs rows
    → (stop : Stop) → (stop ≡ Memory) ⊎ ((stop ≡ Refused NoCut) × All IsRefused rows) → PlanMayStop P ((auto ≡ true) × NoneAllowed o c xs) stop
choice_stops P auto e o c xs rows table stop (inl memory) = subst (PlanMayStop P ((auto ≡ true) × NoneAllowed o c xs)) (sym memory) tt
choice_stops P auto e o c xs rows table stop (inr none) =
    subst (PlanMayStop P ((auto ≡ true) × NoneAllowed o c xs)) (sym none.0) (e, none_chosen auto e o c xs rows table none.1)
