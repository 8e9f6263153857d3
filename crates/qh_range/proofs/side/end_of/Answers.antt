use Rattle.std.proofs.Common.{arith, ◌≡◌, ◌≢◌, [], length, vec_len, sym, ap, ◌∙◌}
use Rattle.std.proofs.lemmas.List.{nil_from_length}
use Rattle.std.proofs.lemmas.Bool.{eqb-true, eqb-false}
use Rattle.qh_prefix.specs.declared.place.Placed.{Placed}
use Rattle.qh_range.proofs.SideLemmas.{end_at_root, end_at_half}
use Rattle.qh_range.proofs.side.end_of.Goals as goal

pub returns-then-is_empty : goal.returns-then-is_empty
returns-then-is_empty c =
    let s = c.args.side.now in
    let none = eqb-true (vec_len s.gates) 0 (sym c.is_empty.ensures ∙ c.if-is_empty.true) in
    sym (end_at_root s.gates.items s.root s.half (nil_from_length s.gates.items (omega (arith, none))))

pub returns-else-is_empty : goal.returns-else-is_empty
returns-else-is_empty c =
    let s = c.args.side.now in
    let some = eqb-false (vec_len s.gates) 0 (sym c.is_empty.ensures ∙ c.if-is_empty.false) in
    sym (end_at_half s.gates.items s.root s.half (λ e. some (omega (arith, ap (length {A = Placed}) e))))
