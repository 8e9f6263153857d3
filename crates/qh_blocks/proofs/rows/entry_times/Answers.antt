use Rattle.std.proofs.Common.{sym, ◌∙◌}
use Rattle.qh_blocks.specs.Blocks.{lane}
use Rattle.qh_blocks.proofs.RowLemmas.{zero_entry}
use Rattle.qh_blocks.proofs.rows.entry_times.Goals as goal

pub returns-in-Zero-clause-lanes : goal.returns-in-Zero-clause-lanes
returns-in-Zero-clause-lanes g c r l = c.nothing_block.ensures.lanes r l ∙ sym (zero_entry c.args.entry (lane g.V.Vector.lanes r c.args.x.now) c.in-Zero.is)

pub returns-in-Zero-clause-block : goal.returns-in-Zero-clause-block
returns-in-Zero-clause-block g c = c.nothing_block.ensures.block c.args.bits
