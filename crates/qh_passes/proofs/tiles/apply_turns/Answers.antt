use Rattle.std.proofs.Common.{length}
use Rattle.qh_passes.proofs.TileLemmas.{turned_room, turned_more}
use Rattle.qh_passes.proofs.tiles.apply_turns.Goals as goal

pub apply_turn-width-requires-clause-room : goal.apply_turn-width-requires-clause-room
apply_turn-width-requires-clause-room g c =
    turned_room g.V.Vector.lanes g.V.Vector.PLACES c.args.bits c.loop-turn.width g.V.Vector.ROOM c.args.run.now c.args.v.now c.loop-turn.v c.loop-turn.turn-index c.requires.room c.loop-turn.invariant

pub loop-turn-preserved : goal.loop-turn-preserved
loop-turn-preserved g c =
    turned_more g.V.Vector.lanes g.V.Vector.PLACES c.args.bits c.loop-turn.width c.apply_turn-width.result c.args.run.now c.args.v.now c.loop-turn.v c.apply_turn-width.new.v c.loop-turn.turn-index c.turn-item.result
    c.loop-turn-test.true c.turn-item.is c.loop-turn.invariant c.apply_turn-width.ensures.len c.apply_turn-width.ensures.width c.apply_turn-width.ensures.exact c.apply_turn-width.ensures.bounded
