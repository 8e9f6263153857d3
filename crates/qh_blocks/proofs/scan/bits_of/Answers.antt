use Rattle.std.proofs.Common.{arith, ◌≤◌, ◌^◌, length}
use Rattle.std.proofs.Math.Pow.{pow_mono}
use Rattle.qh_blocks.proofs.FitLemmas.{read_block}
use Rattle.qh_blocks.proofs.ScanLemmas.{blocks_none, blocks_next, blocks_all, lanes_below}
use Rattle.qh_blocks.proofs.scan.bits_of.Goals as goal

pub loop-k-init : goal.loop-k-init
loop-k-init g c = blocks_none g.V.Vector.lanes (2 ^ g.V.Vector.PLACES) g.V.Vector.ROOM c.args.v.now (g.V.Vector.lanes c.zero-most.result) c.zero-most.ensures

pub larger-most-requires-clause-below : goal.larger-most-requires-clause-below
larger-most-requires-clause-below g c = c.loop-k.invariant.below

pub larger-most-requires-clause-other : goal.larger-most-requires-clause-other
larger-most-requires-clause-other g c =
    c.block_larger.ensures.above g.V.Vector.ROOM (read_block g.V.Vector.lanes g.V.Vector.PLACES g.V.Vector.ROOM c.args.v.now c.loop-k.k c.index-v-k.result c.loop-k-test.true c.requires c.index-v-k.is)

pub loop-k-preserved : goal.loop-k-preserved
loop-k-preserved g c =
    blocks_next g.V.Vector.lanes (2 ^ g.V.Vector.PLACES) g.V.Vector.ROOM c.args.v.now c.loop-k.k (g.V.Vector.lanes c.loop-k.most) (g.V.Vector.lanes c.block_larger.result) (g.V.Vector.lanes c.larger-most.result) c.index-v-k.result c.loop-k-test.true c.requires c.loop-k.invariant c.index-v-k.is
    c.block_larger.ensures.above c.block_larger.ensures.below
    (record { above = c.larger-most.ensures.above; first = c.larger-most.ensures.self_below; second = c.larger-most.ensures.other_below })

pub bits_for-requires : goal.bits_for-requires
bits_for-requires g c =
    let small = g.met.V.Vector.small_room in
    let p : 2 ^ g.V.Vector.ROOM ≤ 2 ^ 63 = pow_mono small in
    let e = c.most.ensures.least g.V.Vector.ROOM c.loop-k.invariant.below in
    omega arith

pub returns-clause-bounded : goal.returns-clause-bounded
returns-clause-bounded g c =
    let end : length c.args.v.now ≤ c.loop-k.k = c.loop-k-test.false in
    blocks_all g.V.Vector.lanes (2 ^ g.V.Vector.PLACES) g.V.Vector.ROOM c.args.v.now c.loop-k.k (g.V.Vector.lanes c.loop-k.most) c.bits_for.result end c.loop-k.invariant
    (lanes_below (2 ^ g.V.Vector.PLACES) g.V.Vector.ROOM c.bits_for.result c.most.result (g.V.Vector.lanes c.loop-k.most) c.loop-k.invariant.below c.most.ensures.most c.bits_for.ensures.enough)

pub returns-clause-least : goal.returns-clause-least
returns-clause-least g c b h = c.bits_for.ensures.least b (c.most.ensures.least b (c.loop-k.invariant.least b h))
