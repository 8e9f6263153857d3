use Rattle.std.proofs.Common.{◌≡◌, ◌<◌, ◌∙◌, List, [], ◌∷◌, ℕ, length, subst, sym}
use Rattle.qh_ring.specs.declared.number.Omega.{Omega}
use Rattle.qh_ring.specs.declared.matrix.Entry.{Entry}
use Rattle.qh_ring.specs.Numbers.{nothing}
use Rattle.qh_ring.specs.Matrices.{number_in}
use Rattle.qh_ring.specs.States.{applied_list}
use Rattle.qh_gates.specs.Tables.{matrix_of}
use Rattle.qh_uncut.proofs.BoundLemmas.{one_wire}
use Rattle.qh_uncut.proofs.EntryLemmas.{made_whole, two_wires}
use Rattle.qh_uncut.proofs.chunks.make_unbounded.Goals as goal

pub returns-then-arity-eq2 : goal.returns-then-arity-eq2
returns-then-arity-eq2 g c =
    let made = c.make_by_quads in
    let v = c.args.v.now in
    let new : List Omega = made.new.new in
    let same : length new ≡ length v = made.ensures.places ∙ sym c.requires.numbers in
    let places : length v ≡ length c.args.new.now = c.requires.numbers ∙ sym c.requires.places in
    let whole = made_whole (number_in c.matrix2.result.rows) (c.args.gate.now.q0 ∷ c.args.gate.now.q1 ∷ []) v new same
    (λ k l. made.ensures.each k nothing (subst (λ n. k < n) places l)) in
    subst (λ (qs : List ℕ). new ≡ applied_list (number_in (matrix_of c.args.gate.now.kind)) qs v)
    (sym (two_wires c.args.gate.now (sym c.arity.ensures ∙ c.if-arity-eq2.true)))
    (subst (λ (rows : List (List Entry)). new ≡ applied_list (number_in rows) (c.args.gate.now.q0 ∷ c.args.gate.now.q1 ∷ []) v) c.matrix2.ensures whole)

pub returns : goal.returns
returns g c =
    let made = c.make_by_pairs in
    let v = c.args.v.now in
    let new : List Omega = made.new.new in
    let same : length new ≡ length v = made.ensures.places ∙ sym c.requires.numbers in
    let places : length v ≡ length c.args.new.now = c.requires.numbers ∙ sym c.requires.places in
    let whole = made_whole (number_in c.matrix1.result.rows) (c.args.gate.now.q0 ∷ []) v new same
    (λ k l. made.ensures.each k nothing (subst (λ n. k < n) places l)) in
    subst (λ (qs : List ℕ). new ≡ applied_list (number_in (matrix_of c.args.gate.now.kind)) qs v)
    (sym (one_wire c.args.gate.now (λ e. c.if-arity-eq2.false (c.arity.ensures ∙ e))))
    (subst (λ (rows : List (List Entry)). new ≡ applied_list (number_in rows) (c.args.gate.now.q0 ∷ []) v) c.matrix1.ensures whole)
