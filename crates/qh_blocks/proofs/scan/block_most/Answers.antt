use Rattle.std.proofs.Common.{◌^◌}
use Rattle.qh_blocks.proofs.ScanLemmas.{lanes_below}
use Rattle.qh_blocks.proofs.scan.block_most.Goals as goal

pub most-requires : goal.most-requires
most-requires g c = c.block_larger.ensures.above g.V.Vector.ROOM c.requires

pub returns-clause-most : goal.returns-clause-most
returns-clause-most g c b l =
    c.block_larger.ensures.below b
    (lanes_below (2 ^ g.V.Vector.PLACES) g.V.Vector.ROOM b c.most.result (g.V.Vector.lanes c.block_larger.result) (c.block_larger.ensures.above g.V.Vector.ROOM c.requires) c.most.ensures.most l)

pub returns-clause-least : goal.returns-clause-least
returns-clause-least g c b h = c.most.ensures.least b (c.block_larger.ensures.above b h)
