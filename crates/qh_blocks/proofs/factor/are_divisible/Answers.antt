use Rattle.std.proofs.Common.{◌≤◌, ◌+◌, ◌^◌, length, arith}
use Rattle.qh_blocks.proofs.PartLemmas.{block_more}
use Rattle.qh_blocks.proofs.FactorLemmas.{divisible_none, divisible_more, divisible_all}
use Rattle.qh_blocks.proofs.factor.are_divisible.Goals as goal

pub loop-k-init : goal.loop-k-init
loop-k-init g c = divisible_none g.V.Vector.lanes (2 ^ g.V.Vector.PLACES) c.args.roots c.args.v.now

pub is_even-requires : goal.is_even-requires
is_even-requires g c =
    let room = c.requires.room in
    block_more g.V.Vector.lanes (2 ^ g.V.Vector.PLACES) (c.args.bits + 1) g.V.Vector.ROOM c.grown.result (omega (arith, room)) c.grown.ensures.block

pub loop-k-preserved : goal.loop-k-preserved
loop-k-preserved g c =
    divisible_more g.V.Vector.lanes (2 ^ g.V.Vector.PLACES) c.args.roots c.args.v.now c.loop-k.k c.block_at-x.result c.grown.result c.loop-k-test.true c.block_at-x.ensures c.grown.ensures.lanes
    (c.is_even.ensures c.if-not-is_even.false) c.loop-k.invariant

pub returns : goal.returns
returns g c t =
    let end : length c.args.v.now ≤ c.loop-k.k = c.loop-k-test.false in
    divisible_all g.V.Vector.lanes (2 ^ g.V.Vector.PLACES) c.args.roots c.args.v.now c.loop-k.k end c.loop-k.invariant
