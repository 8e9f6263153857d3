use Rattle.qh_narrow.proofs.TilesLemmas.{AreFirst}
use Rattle.qh_narrow.proofs.tiles.first_turns.Given as goal

abbrev pub invariant-loop-count : goal.invariant-loop-count
invariant-loop-count l = AreFirst l.limit l.bits l.room l.bound l.run l.count
