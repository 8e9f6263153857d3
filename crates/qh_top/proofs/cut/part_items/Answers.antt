use Rattle.std.proofs.Common.{sym, ◌∙◌}
use Rattle.qh_request.specs.Chosen.{is_auto}
use Rattle.qh_request.specs.Refusals.{PlanRefusesBy}
use Rattle.std.specs.Prelude.{Some}
use Rattle.qh_top.proofs.Chosen.{part_chosen, choice_stops}
use Rattle.qh_top.proofs.Sums.{ok_of, err_of}
use Rattle.qh_top.proofs.cut.part_items.Goals as goal

pub returns-then-is_auto-clause-items : goal.returns-then-is_auto-clause-items
returns-then-is_auto-clause-items c =
    ok_of c.cheapest_part.result _ _ c.cheapest_part.ensures.items (λ items h.
    part_chosen (is_auto c.args.part.now) (sym c.is_auto.ensures ∙ c.if-is_auto.true) c.args.options.now c.args.part.now c.args.circuit.now c.args.indices.now c.args.rows.now c.requires items.items h)

pub returns-then-is_auto-clause-cause : goal.returns-then-is_auto-clause-cause
returns-then-is_auto-clause-cause c =
    err_of c.cheapest_part.result _ _ c.cheapest_part.ensures.cause (λ stop h.
    choice_stops (PlanRefusesBy (Some c.args.part.now) c.args.options.now c.args.circuit.now c.args.indices.now) (is_auto c.args.part.now) (sym c.is_auto.ensures ∙ c.if-is_auto.true)
    c.args.options.now c.args.circuit.now c.args.indices.now c.args.rows.now c.requires stop h)
