use Rattle.std.proofs.Common.{◌≡◌, ◌∙◌, inl, sym, subst, false, codes}
use Rattle.std.proofs.lemmas.Bool.{false_from_ne_true}
use Rattle.std.proofs.lemmas.Slice.Eq.{bytes_eq-Decides}
use Rattle.qh_plan.specs.declared.fault.PlanFault.TheVariants.{PartText}
use Rattle.qh_request.specs.declared.stop.Refusal.TheVariants.{Plan}
use Rattle.qh_request.specs.Chosen.{is_auto}
use Rattle.qh_request.specs.Refusals.{PlanRefusesBy, PartRefuses}
use Rattle.qh_request.proofs.laws.bad_part_is_refused.Goals as goal

pub returns : goal.returns
returns c = λ o part item e other bad v xs.
    let listed : is_auto part ≡ false = false_from_ne_true (is_auto part) (λ same. other ((bytes_eq-Decides part (codes "auto")).0 same)) in
    let refused = subst (λ auto. PartRefuses auto part o v xs (PartText item)) (sym listed) (inl bad) in
    (Plan (PartText item), subst (λ p. PlanRefusesBy p o v xs (PartText item)) (sym e) refused)
