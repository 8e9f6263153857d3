use Rattle.std.proofs.Common.{length, sym, ◌∙◌}
use Rattle.std.proofs.lemmas.Bool.{eqb-true, eqb-false}
use Rattle.qh_narrow.proofs.StoredLemmas.{none_within, some_items}
use Rattle.qh_narrow.proofs.WithinLemmas.{first_within}
use Rattle.qh_narrow.proofs.stored.bound_of.Goals as goal

pub returns-then-is_empty-clause-bound : goal.returns-then-is_empty-clause-bound
returns-then-is_empty-clause-bound g c = none_within g.V.Vector.lanes g.V.Vector.PLACES c.args.qubits 0 c.args.v.now (eqb-true (length c.args.v.now) 0 (sym c.is_empty.ensures ∙ c.if-is_empty.true))

pub returns-clause-bound : goal.returns-clause-bound
returns-clause-bound g c =
    let kept = c.requires.kept (some_items c.args.v.now (eqb-false (length c.args.v.now) 0 (sym c.is_empty.ensures ∙ c.if-is_empty.false))) in
    first_within g.V.Vector.lanes g.V.Vector.PLACES c.args.qubits c.args.bits c.args.v.now kept.blocks kept.bounded
