use Rattle.std.proofs.Common.{arith, ◌≡◌, [], length, vec_len, sym, ap, subst, ◌∙◌}
use Rattle.std.proofs.lemmas.List.{nil_from_length}
use Rattle.std.proofs.lemmas.Bool.{eqb-true, eqb-false}
use Rattle.qh_prefix.specs.declared.place.Placed.{Placed}
use Rattle.qh_prefix.specs.Places.{operations}
use Rattle.qh_prefix.specs.Runs.{IsAfter}
use Rattle.qh_range.specs.Sides.{path_end}
use Rattle.qh_range.proofs.SideLemmas.{after_none, end_at_half}
use Rattle.qh_range.proofs.side.run_half.Goals as goal

pub returns-then-is_empty-clause-after : goal.returns-then-is_empty-clause-after
returns-then-is_empty-clause-after g c =
    let s = c.args.side.now in
    let none = eqb-true (vec_len s.gates) 0 (sym c.is_empty.ensures ∙ c.if-is_empty.true) in
    after_none s.half.qubits s.gates.items c.args.digits.now s.root s.half (nil_from_length s.gates.items (omega (arith, none)))

pub returns-clause-after : goal.returns-clause-after
returns-clause-after g c =
    let s = c.args.side.now in
    let t = c.run_copy.new.side in
    let some = eqb-false (vec_len s.gates) 0 (sym c.is_empty.ensures ∙ c.if-is_empty.false) in
    let end : path_end s.gates.items s.root t.half ≡ t.half = end_at_half s.gates.items s.root t.half (λ e. some (omega (arith, ap (length {A = Placed}) e))) in
    let same = c.run_copy.ensures.kept in
    subst (λ h. IsAfter s.half.qubits (operations s.gates.items c.args.digits.now) s.root.numbers h.numbers)
    (sym (ap (λ x. path_end x.gates.items x.root x.half) same ∙ end)) c.run_copy.ensures.after
