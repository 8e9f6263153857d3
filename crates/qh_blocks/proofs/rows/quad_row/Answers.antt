use Rattle.std.proofs.Common.{◌∙◌}
use Rattle.qh_blocks.proofs.rows.quad_row.Goals as goal

pub returns-clause-lanes : goal.returns-clause-lanes
returns-clause-lanes g c r l = c.turned.ensures.lanes r l ∙ c.only_of-source.ensures.lanes r l
