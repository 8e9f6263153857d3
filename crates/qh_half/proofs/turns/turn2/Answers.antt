use Rattle.std.proofs.Common.{[], ◌∷◌, ℕ, ◌≤◌, ◌+◌, ◌/◌, arith, subst, sym, ◌∙◌}
use Rattle.std.specs.Option.{IfSome}
use Rattle.qh_ring.specs.Matrices.{number_in}
use Rattle.qh_half.specs.declared.form.Form.{Form}
use Rattle.qh_half.specs.Halves.{IsVector, AfterMatrix}
use Rattle.qh_half.specs.Forms.{held, IsKept}
use Rattle.qh_half.proofs.FormLemmas.{vector_after}
use Rattle.qh_half.proofs.RootLemmas.{moved_numbers, moved_vector}
use Rattle.qh_half.proofs.turns.turn2.Goals as goal

few_roots : (bits most roots : ℕ) → bits + (most + 1) / 2 ≤ 126 → roots ≤ most → bits + (roots + 1) / 2 ≤ 126
few_roots bits most roots b l = omega arith

pub returns-in-Narrow16-clause-kept : goal.returns-in-Narrow16-clause-kept
returns-in-Narrow16-clause-kept c =
    let kept : IsKept c.args.qubits (Form.Narrow16 c.in-Narrow16.field-0) c.args.places.now = subst (λ (f : Form). IsKept c.args.qubits f c.args.places.now) c.in-Narrow16.is c.requires.kept in
    let qs = c.args.q0 ∷ c.args.q1 ∷ [] in
    let vector = moved_vector c.args.qubits c.in-Narrow16.field-0 14 (number_in c.args.m.now.rows) qs c.args.places.now.narrow16.numbers c.apply2.new.self.numbers
    (few_roots 14 192 c.in-Narrow16.field-0 (omega arith) kept.roots) kept.vector c.apply2.ensures.exact c.apply2.ensures.within in
    subst (λ (f : Form). IsKept c.args.qubits f (record c.args.places.now { narrow16 = c.apply2.new.self })) (sym c.in-Narrow16.is) (record {
      alike = record {
        few = c.requires.kept.alike.few;
        narrow16 = c.apply2.ensures.qubits ∙ c.requires.kept.alike.narrow16;
        narrow32 = c.requires.kept.alike.narrow32;
        narrow64 = c.requires.kept.alike.narrow64;
        wide = c.requires.kept.alike.wide;
      };
      roots = kept.roots;
      vector = vector;
    })

pub returns-in-Narrow16-clause-numbers : goal.returns-in-Narrow16-clause-numbers
returns-in-Narrow16-clause-numbers c =
    let kept : IsKept c.args.qubits (Form.Narrow16 c.in-Narrow16.field-0) c.args.places.now = subst (λ (f : Form). IsKept c.args.qubits f c.args.places.now) c.in-Narrow16.is c.requires.kept in
    let qs = c.args.q0 ∷ c.args.q1 ∷ [] in
    let vector = moved_vector c.args.qubits c.in-Narrow16.field-0 14 (number_in c.args.m.now.rows) qs c.args.places.now.narrow16.numbers c.apply2.new.self.numbers
    (few_roots 14 192 c.in-Narrow16.field-0 (omega arith) kept.roots) kept.vector c.apply2.ensures.exact c.apply2.ensures.within in
    subst (λ (f : Form). AfterMatrix (number_in c.args.m.now.rows) qs (held f c.args.places.now) (held f (record c.args.places.now { narrow16 = c.apply2.new.self }))) (sym c.in-Narrow16.is)
    (moved_numbers c.in-Narrow16.field-0 (number_in c.args.m.now.rows) qs c.args.places.now.narrow16.numbers c.apply2.new.self.numbers c.apply2.ensures.exact, vector.within)

pub returns-in-Narrow32-clause-kept : goal.returns-in-Narrow32-clause-kept
returns-in-Narrow32-clause-kept c =
    let kept : IsKept c.args.qubits (Form.Narrow32 c.in-Narrow32.field-0) c.args.places.now = subst (λ (f : Form). IsKept c.args.qubits f c.args.places.now) c.in-Narrow32.is c.requires.kept in
    let qs = c.args.q0 ∷ c.args.q1 ∷ [] in
    let vector = moved_vector c.args.qubits c.in-Narrow32.field-0 30 (number_in c.args.m.now.rows) qs c.args.places.now.narrow32.numbers c.apply2-in-Narrow32.new.self.numbers
    (few_roots 30 192 c.in-Narrow32.field-0 (omega arith) kept.roots) kept.vector c.apply2-in-Narrow32.ensures.exact c.apply2-in-Narrow32.ensures.within in
    subst (λ (f : Form). IsKept c.args.qubits f (record c.args.places.now { narrow32 = c.apply2-in-Narrow32.new.self })) (sym c.in-Narrow32.is) (record {
      alike = record {
        few = c.requires.kept.alike.few;
        narrow16 = c.requires.kept.alike.narrow16;
        narrow32 = c.apply2-in-Narrow32.ensures.qubits ∙ c.requires.kept.alike.narrow32;
        narrow64 = c.requires.kept.alike.narrow64;
        wide = c.requires.kept.alike.wide;
      };
      roots = kept.roots;
      vector = vector;
    })

pub returns-in-Narrow32-clause-numbers : goal.returns-in-Narrow32-clause-numbers
returns-in-Narrow32-clause-numbers c =
    let kept : IsKept c.args.qubits (Form.Narrow32 c.in-Narrow32.field-0) c.args.places.now = subst (λ (f : Form). IsKept c.args.qubits f c.args.places.now) c.in-Narrow32.is c.requires.kept in
    let qs = c.args.q0 ∷ c.args.q1 ∷ [] in
    let vector = moved_vector c.args.qubits c.in-Narrow32.field-0 30 (number_in c.args.m.now.rows) qs c.args.places.now.narrow32.numbers c.apply2-in-Narrow32.new.self.numbers
    (few_roots 30 192 c.in-Narrow32.field-0 (omega arith) kept.roots) kept.vector c.apply2-in-Narrow32.ensures.exact c.apply2-in-Narrow32.ensures.within in
    subst (λ (f : Form). AfterMatrix (number_in c.args.m.now.rows) qs (held f c.args.places.now) (held f (record c.args.places.now { narrow32 = c.apply2-in-Narrow32.new.self }))) (sym c.in-Narrow32.is)
    (moved_numbers c.in-Narrow32.field-0 (number_in c.args.m.now.rows) qs c.args.places.now.narrow32.numbers c.apply2-in-Narrow32.new.self.numbers c.apply2-in-Narrow32.ensures.exact, vector.within)

pub returns-in-Narrow64-clause-kept : goal.returns-in-Narrow64-clause-kept
returns-in-Narrow64-clause-kept c =
    let kept : IsKept c.args.qubits (Form.Narrow64 c.in-Narrow64.field-0) c.args.places.now = subst (λ (f : Form). IsKept c.args.qubits f c.args.places.now) c.in-Narrow64.is c.requires.kept in
    let qs = c.args.q0 ∷ c.args.q1 ∷ [] in
    let vector = moved_vector c.args.qubits c.in-Narrow64.field-0 62 (number_in c.args.m.now.rows) qs c.args.places.now.narrow64.numbers c.apply2-in-Narrow64.new.self.numbers
    (few_roots 62 128 c.in-Narrow64.field-0 (omega arith) kept.roots) kept.vector c.apply2-in-Narrow64.ensures.exact c.apply2-in-Narrow64.ensures.within in
    subst (λ (f : Form). IsKept c.args.qubits f (record c.args.places.now { narrow64 = c.apply2-in-Narrow64.new.self })) (sym c.in-Narrow64.is) (record {
      alike = record {
        few = c.requires.kept.alike.few;
        narrow16 = c.requires.kept.alike.narrow16;
        narrow32 = c.requires.kept.alike.narrow32;
        narrow64 = c.apply2-in-Narrow64.ensures.qubits ∙ c.requires.kept.alike.narrow64;
        wide = c.requires.kept.alike.wide;
      };
      roots = kept.roots;
      vector = vector;
    })

pub returns-in-Narrow64-clause-numbers : goal.returns-in-Narrow64-clause-numbers
returns-in-Narrow64-clause-numbers c =
    let kept : IsKept c.args.qubits (Form.Narrow64 c.in-Narrow64.field-0) c.args.places.now = subst (λ (f : Form). IsKept c.args.qubits f c.args.places.now) c.in-Narrow64.is c.requires.kept in
    let qs = c.args.q0 ∷ c.args.q1 ∷ [] in
    let vector = moved_vector c.args.qubits c.in-Narrow64.field-0 62 (number_in c.args.m.now.rows) qs c.args.places.now.narrow64.numbers c.apply2-in-Narrow64.new.self.numbers
    (few_roots 62 128 c.in-Narrow64.field-0 (omega arith) kept.roots) kept.vector c.apply2-in-Narrow64.ensures.exact c.apply2-in-Narrow64.ensures.within in
    subst (λ (f : Form). AfterMatrix (number_in c.args.m.now.rows) qs (held f c.args.places.now) (held f (record c.args.places.now { narrow64 = c.apply2-in-Narrow64.new.self }))) (sym c.in-Narrow64.is)
    (moved_numbers c.in-Narrow64.field-0 (number_in c.args.m.now.rows) qs c.args.places.now.narrow64.numbers c.apply2-in-Narrow64.new.self.numbers c.apply2-in-Narrow64.ensures.exact, vector.within)

pub returns-in-Wide-clause-kept : goal.returns-in-Wide-clause-kept
returns-in-Wide-clause-kept c =
    let old : IsVector c.args.qubits c.args.places.now.wide.numbers = subst (λ (f : Form). IfSome (held f c.args.places.now) (IsVector c.args.qubits)) c.in-Wide.is c.requires.kept.vector in
    subst (λ (f : Form). IsKept c.args.qubits f (record c.args.places.now { wide = c.apply2-in-Wide.new.self })) (sym c.in-Wide.is) (record {
      alike = record {
        few = c.requires.kept.alike.few;
        narrow16 = c.requires.kept.alike.narrow16;
        narrow32 = c.requires.kept.alike.narrow32;
        narrow64 = c.requires.kept.alike.narrow64;
        wide = c.apply2-in-Wide.ensures.qubits ∙ c.requires.kept.alike.wide;
      };
      roots = omega arith;
      vector = vector_after c.args.qubits 126 (number_in c.args.m.now.rows) (c.args.q0 ∷ c.args.q1 ∷ []) c.args.places.now.wide.numbers c.apply2-in-Wide.new.self.numbers (omega arith)
          old c.apply2-in-Wide.ensures.exact c.apply2-in-Wide.ensures.within;
    })

pub apply2-requires-in-Wide-clause-vector : goal.apply2-requires-in-Wide-clause-vector
apply2-requires-in-Wide-clause-vector c =
    let old : IsVector c.args.qubits c.args.places.now.wide.numbers = subst (λ (f : Form). IfSome (held f c.args.places.now) (IsVector c.args.qubits)) c.in-Wide.is c.requires.kept.vector in
    subst (λ (n : ℕ). IsVector n c.args.places.now.wide.numbers) (sym c.requires.kept.alike.wide) old
