use Rattle.std.proofs.Common.{arith, refl}
use Rattle.qh_narrow.proofs.TilesLemmas.{first_more}
use Rattle.qh_narrow.proofs.tiles.first_turns.Goals as goal

pub loop-count-preserved : goal.loop-count-preserved
loop-count-preserved c =
    let room = c.if-next-room.false in
    first_more c.args.limit c.args.bits c.args.room c.loop-count.bound c.width_after-next.result c.args.run.now c.loop-count.count c.index-run-count.result
    c.loop-count-test.true c.index-run-count.is c.loop-count.invariant (c.if-not-is_below.ensures.0 refl) c.width_after-next.ensures (omega (arith, room))
