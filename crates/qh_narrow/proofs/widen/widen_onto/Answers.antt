use Rattle.std.proofs.Common.{length, drop, arith, sym, subst, ◌∙◌}
use Rattle.qh_narrow.specs.Columns.{AreHeld}
use Rattle.std.proofs.lemmas.Bool.{eqb-false}
use Rattle.qh_narrow.proofs.StoredLemmas.{some_items, held_room, kept_held, written_back}
use Rattle.qh_narrow.proofs.widen.widen_onto.Goals as goal

pub widen-requires-clause-blocks : goal.widen-requires-clause-blocks
widen-requires-clause-blocks g c =
    let kept = c.requires.held.kept (some_items c.args.narrow.now (eqb-false (length c.args.narrow.now) 0 (sym c.is_empty.ensures ∙ c.if-is_empty.false))) in
    kept.blocks

pub widen-requires-clause-bounded : goal.widen-requires-clause-bounded
widen-requires-clause-bounded g c =
    held_room g.N.Vector.lanes g.N.Vector.PLACES g.N.Vector.ROOM c.args.qubits c.args._bits c.args.narrow.now c.requires.held

pub returns-clause-held : goal.returns-clause-held
returns-clause-held g c =
    let kept = c.requires.held.kept (some_items c.args.narrow.now (eqb-false (length c.args.narrow.now) 0 (sym c.is_empty.ensures ∙ c.if-is_empty.false))) in
    let left = kept.room_left in
    let room = c.requires.room in
    let w = c.widen.new.wide in
    subst (AreHeld g.W.Vector.lanes g.W.Vector.PLACES g.W.Vector.ROOM c.args.qubits c.args._bits)
    (sym (written_back c.resize.new.self.len w (drop (length w) c.resize.new.self.items) (c.widen.auto.wide ∙ c.deref_mut.ensures.len)))
    (kept_held g.W.Vector.lanes g.W.Vector.PLACES g.W.Vector.ROOM c.args.qubits c.args._bits w (record {
      blocks = c.widen.ensures.blocks;
      room_left = omega (arith, left, room);
      bounded = c.widen.ensures.bounded c.args._bits kept.bounded;
    }))
