use Rattle.std.proofs.Common.{length, sym, ◌∙◌}
use Rattle.std.proofs.lemmas.Bool.{eqb-true, eqb-false}
use Rattle.qh_narrow.proofs.StoredLemmas.{kept_held, held_within, some_items}
use Rattle.qh_narrow.proofs.stored.change_run.Goals as goal

pub returns-then-is_empty-clause-within : goal.returns-then-is_empty-clause-within
returns-then-is_empty-clause-within g c =
    held_within g.V.Vector.lanes g.V.Vector.PLACES g.V.Vector.ROOM c.args.qubits c.args.bits c.args.v.now c.requires.held

pub turn_tiles-requires-clause-kept : goal.turn_tiles-requires-clause-kept
turn_tiles-requires-clause-kept g c = c.requires.held.kept (some_items c.args.v.now (eqb-false (length c.args.v.now) 0 (sym c.is_empty.ensures ∙ c.if-is_empty.false)))

pub returns-clause-held : goal.returns-clause-held
returns-clause-held g c = kept_held g.V.Vector.lanes g.V.Vector.PLACES g.V.Vector.ROOM c.args.qubits c.turn_tiles.result.1 c.turn_tiles.new.v c.turn_tiles.ensures.kept
