use Rattle.std.proofs.Common.{[], ◌∷◌, length, sym, ◌∙◌}
use Rattle.std.proofs.lemmas.Bool.{eqb-true, eqb-false}
use Rattle.qh_ring.specs.Matrices.{number_in}
use Rattle.qh_kernel.proofs.GroupLemmas.{two_qubits}
use Rattle.qh_narrow.proofs.StoredLemmas.{kept_held, held_within, none_applied, some_items}
use Rattle.qh_narrow.proofs.stored.change2.Goals as goal

pub returns-then-is_empty-clause-exact : goal.returns-then-is_empty-clause-exact
returns-then-is_empty-clause-exact g c =
    none_applied g.V.Vector.lanes g.V.Vector.PLACES c.args.qubits (number_in c.args.m.now.rows) (c.args.q0 ∷ c.args.q1 ∷ []) c.args.v.now
    (two_qubits c.args.qubits c.args.q0 c.args.q1 c.requires.first c.requires.second c.requires.apart)
    (eqb-true (length c.args.v.now) 0 (sym c.is_empty.ensures ∙ c.if-is_empty.true))

pub returns-then-is_empty-clause-within : goal.returns-then-is_empty-clause-within
returns-then-is_empty-clause-within g c =
    held_within g.V.Vector.lanes g.V.Vector.PLACES g.V.Vector.ROOM c.args.qubits c.args.bits c.args.v.now c.requires.held

pub turn2-requires-clause-kept : goal.turn2-requires-clause-kept
turn2-requires-clause-kept g c = c.requires.held.kept (some_items c.args.v.now (eqb-false (length c.args.v.now) 0 (sym c.is_empty.ensures ∙ c.if-is_empty.false)))

pub returns-clause-held : goal.returns-clause-held
returns-clause-held g c = kept_held g.V.Vector.lanes g.V.Vector.PLACES g.V.Vector.ROOM c.args.qubits c.args.bits c.turn2.new.v c.turn2.ensures.kept
