use Rattle.std.proofs.Common.{sym, ◌∙◌}
use Rattle.qh_blocks.specs.Blocks.{lane}
use Rattle.qh_blocks.proofs.RowLemmas.{first_zero, second_zero}
use Rattle.qh_blocks.proofs.rows.pair_row.Goals as goal

pub returns-in_default-clause-lanes : goal.returns-in_default-clause-lanes
returns-in_default-clause-lanes g c r l = c.entry_times.ensures.lanes r l ∙ sym (first_zero c.args.first c.args.second (lane g.V.Vector.lanes r c.args.x.now) (lane g.V.Vector.lanes r c.args.y.now) c.in_default.is)

pub returns-in_default-second-clause-lanes : goal.returns-in_default-second-clause-lanes
returns-in_default-second-clause-lanes g c r l =
    c.turned.ensures.lanes r l
    ∙ sym (second_zero c.args.first c.args.second (lane g.V.Vector.lanes r c.args.x.now) (lane g.V.Vector.lanes r c.args.y.now) c.in-Unit.i c.in-Unit.is c.in_default-second.is)
