use Rattle.qh_blocks.specs.Blocks.{lane}
use Rattle.qh_blocks.proofs.FactorLemmas.{half_number}
use Rattle.qh_blocks.proofs.factor.half_of.Goals as goal

pub returns-clause-lanes : goal.returns-clause-lanes
returns-clause-lanes g c r l =
    half_number _ (lane g.V.Vector.lanes r c.args.x.now) (c.halved.ensures.lanes r l) (c.halved-2.ensures.lanes r l) (c.halved-3.ensures.lanes r l) (c.halved-4.ensures.lanes r l)
