use Rattle.std.proofs.Common.{◌^◌}
use Rattle.qh_blocks.specs.Widths.{two_rows}
use Rattle.qh_blocks.proofs.WidthLemmas.{low_width, high_width}
use Rattle.qh_blocks.proofs.pairs.new_pair.Goals as goal

pub returns-clause-low_block : goal.returns-clause-low_block
returns-clause-low_block g c = low_width g.V.Vector.lanes (2 ^ g.V.Vector.PLACES) c.args.bits (two_rows c.args.first c.args.second c.args.third c.args.fourth) c.pair_row-low.result c.pair_row-low.ensures.block

pub returns-clause-high_block : goal.returns-clause-high_block
returns-clause-high_block g c = high_width g.V.Vector.lanes (2 ^ g.V.Vector.PLACES) c.args.bits (two_rows c.args.first c.args.second c.args.third c.args.fourth) c.pair_row-high.result c.pair_row-high.ensures.block
