use Rattle.std.proofs.Common.{sym, subst, List, All, take, None}
use Rattle.std.proofs.lemmas.List.{take_all, take_more}
use Rattle.qh_planner.specs.declared.row.CutRow.{CutRow}
use Rattle.qh_planner.specs.Choice.{IsRefused}
use Rattle.qh_planner.specs.Best.{IsBest}
use Rattle.qh_planner.proofs.choice.cheapest.Goals as goal

pub loop-row-preserved : goal.loop-row-preserved
loop-row-preserved c =
    subst (λ (t : List CutRow). IsBest t c.cheaper-best.result) (sym (take_more c.args.table.now c.loop-row.row-index _ c.loop-row-test.true))
    (c.cheaper-best.ensures (take c.loop-row.row-index c.args.table.now) c.loop-row.invariant)

pub returns-in-None-clause-none : goal.returns-in-None-clause-none
returns-in-None-clause-none c =
    let none : IsBest (take c.loop-row.row-index c.args.table.now) None = subst (IsBest (take c.loop-row.row-index c.args.table.now)) c.in-None.is c.loop-row.invariant in
    subst (All IsRefused) (take_all c.loop-row.row-index c.args.table.now c.loop-row-test.false) none
