use Rattle.std.proofs.Common.{◌≤◌, ◌^◌, length}
use Rattle.qh_blocks.specs.Blocks.{IsBlock}
use Rattle.qh_blocks.specs.Factors.{AreEven}
use Rattle.qh_blocks.proofs.FactorLemmas.{divided_none, divided_more, divided_all, block_read, even_grown}
use Rattle.qh_blocks.proofs.factor.divide.Goals as goal

pub loop-k-init : goal.loop-k-init
loop-k-init g c = divided_none g.V.Vector.lanes (2 ^ g.V.Vector.PLACES) c.args.roots c.args.bits c.args.v.now c.requires.bounded

pub grown-requires-clause-block : goal.grown-requires-clause-block
grown-requires-clause-block g c =
    block_read g.V.Vector.lanes (2 ^ g.V.Vector.PLACES) c.args.roots c.args.bits c.args.v.now c.loop-k.v c.loop-k.k c.block_at-x.result (IsBlock g.V.Vector.lanes (2 ^ g.V.Vector.PLACES) c.args.bits) c.loop-k-test.true c.loop-k.invariant c.block_at-x.ensures c.requires.bounded

pub half_of-requires-clause-even : goal.half_of-requires-clause-even
half_of-requires-clause-even g c =
    even_grown g.V.Vector.lanes (2 ^ g.V.Vector.PLACES) c.args.roots c.block_at-x.result c.grown.result c.grown.ensures.lanes
    (block_read g.V.Vector.lanes (2 ^ g.V.Vector.PLACES) c.args.roots c.args.bits c.args.v.now c.loop-k.v c.loop-k.k c.block_at-x.result (AreEven g.V.Vector.lanes (2 ^ g.V.Vector.PLACES) c.args.roots) c.loop-k-test.true c.loop-k.invariant c.block_at-x.ensures c.requires.even)

pub loop-k-preserved : goal.loop-k-preserved
loop-k-preserved g c =
    divided_more g.V.Vector.lanes (2 ^ g.V.Vector.PLACES) c.args.roots c.args.bits c.args.v.now c.loop-k.v c.loop-k.k c.block_at-x.result c.grown.result c.half_of.result c.requires.roots c.loop-k-test.true c.loop-k.invariant c.block_at-x.ensures
    c.grown.ensures.lanes c.half_of.ensures.lanes c.half_of.ensures.block

pub returns-clause-factor : goal.returns-clause-factor
returns-clause-factor g c =
    let end : length c.args.v.now ≤ c.loop-k.k = c.loop-k-test.false in
    divided_all g.V.Vector.lanes g.V.Vector.PLACES c.args.roots c.args.bits c.args.v.now c.loop-k.v c.loop-k.k end c.loop-k.invariant

pub returns-clause-bounded : goal.returns-clause-bounded
returns-clause-bounded g c = c.loop-k.invariant.bounded
