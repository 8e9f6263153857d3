use Rattle.std.proofs.Common.{take, subst, sym}
use Rattle.qh_half.specs.declared.form.Form.{Form}
use Rattle.qh_half.specs.Halves.{AfterTurns}
use Rattle.qh_half.specs.Forms.{held, IsKept}
use Rattle.qh_half.proofs.TakenLemmas.{kept16, taken16, kept32, taken32, kept64, taken64}
use Rattle.qh_half.proofs.runs.take_turns.Goals as goal

pub returns-in-Narrow16-clause-kept : goal.returns-in-Narrow16-clause-kept
returns-in-Narrow16-clause-kept c =
    let kept : IsKept c.args.qubits (Form.Narrow16 c.in-Narrow16.field-0) c.args.places.now = subst (λ (f : Form). IsKept c.args.qubits f c.args.places.now) c.in-Narrow16.is c.requires.kept in
    subst (λ (f : Form). IsKept c.args.qubits f (record c.args.places.now { narrow16 = c.apply_run.new.self })) (sym c.in-Narrow16.is)
    (kept16 c.args.qubits c.in-Narrow16.field-0 c.args.places.now c.apply_run.new.self (take c.apply_run.result c.args.run.now) kept c.apply_run.ensures.qubits c.apply_run.ensures.exact c.apply_run.ensures.within)

pub returns-in-Narrow16-clause-numbers : goal.returns-in-Narrow16-clause-numbers
returns-in-Narrow16-clause-numbers c =
    let kept : IsKept c.args.qubits (Form.Narrow16 c.in-Narrow16.field-0) c.args.places.now = subst (λ (f : Form). IsKept c.args.qubits f c.args.places.now) c.in-Narrow16.is c.requires.kept in
    subst (λ (f : Form). AfterTurns (take c.apply_run.result c.args.run.now) (held f c.args.places.now) (held f (record c.args.places.now { narrow16 = c.apply_run.new.self }))) (sym c.in-Narrow16.is)
    (taken16 c.args.qubits c.in-Narrow16.field-0 c.args.places.now c.apply_run.new.self (take c.apply_run.result c.args.run.now) kept c.apply_run.ensures.exact c.apply_run.ensures.within)

pub returns-in-Narrow32-clause-kept : goal.returns-in-Narrow32-clause-kept
returns-in-Narrow32-clause-kept c =
    let kept : IsKept c.args.qubits (Form.Narrow32 c.in-Narrow32.field-0) c.args.places.now = subst (λ (f : Form). IsKept c.args.qubits f c.args.places.now) c.in-Narrow32.is c.requires.kept in
    subst (λ (f : Form). IsKept c.args.qubits f (record c.args.places.now { narrow32 = c.apply_run-in-Narrow32.new.self })) (sym c.in-Narrow32.is)
    (kept32 c.args.qubits c.in-Narrow32.field-0 c.args.places.now c.apply_run-in-Narrow32.new.self (take c.apply_run-in-Narrow32.result c.args.run.now) kept c.apply_run-in-Narrow32.ensures.qubits c.apply_run-in-Narrow32.ensures.exact c.apply_run-in-Narrow32.ensures.within)

pub returns-in-Narrow32-clause-numbers : goal.returns-in-Narrow32-clause-numbers
returns-in-Narrow32-clause-numbers c =
    let kept : IsKept c.args.qubits (Form.Narrow32 c.in-Narrow32.field-0) c.args.places.now = subst (λ (f : Form). IsKept c.args.qubits f c.args.places.now) c.in-Narrow32.is c.requires.kept in
    subst (λ (f : Form). AfterTurns (take c.apply_run-in-Narrow32.result c.args.run.now) (held f c.args.places.now) (held f (record c.args.places.now { narrow32 = c.apply_run-in-Narrow32.new.self }))) (sym c.in-Narrow32.is)
    (taken32 c.args.qubits c.in-Narrow32.field-0 c.args.places.now c.apply_run-in-Narrow32.new.self (take c.apply_run-in-Narrow32.result c.args.run.now) kept c.apply_run-in-Narrow32.ensures.exact c.apply_run-in-Narrow32.ensures.within)

pub returns-in-Narrow64-clause-kept : goal.returns-in-Narrow64-clause-kept
returns-in-Narrow64-clause-kept c =
    let kept : IsKept c.args.qubits (Form.Narrow64 c.in-Narrow64.field-0) c.args.places.now = subst (λ (f : Form). IsKept c.args.qubits f c.args.places.now) c.in-Narrow64.is c.requires.kept in
    subst (λ (f : Form). IsKept c.args.qubits f (record c.args.places.now { narrow64 = c.apply_run-in-Narrow64.new.self })) (sym c.in-Narrow64.is)
    (kept64 c.args.qubits c.in-Narrow64.field-0 c.args.places.now c.apply_run-in-Narrow64.new.self (take c.apply_run-in-Narrow64.result c.args.run.now) kept c.apply_run-in-Narrow64.ensures.qubits c.apply_run-in-Narrow64.ensures.exact c.apply_run-in-Narrow64.ensures.within)

pub returns-in-Narrow64-clause-numbers : goal.returns-in-Narrow64-clause-numbers
returns-in-Narrow64-clause-numbers c =
    let kept : IsKept c.args.qubits (Form.Narrow64 c.in-Narrow64.field-0) c.args.places.now = subst (λ (f : Form). IsKept c.args.qubits f c.args.places.now) c.in-Narrow64.is c.requires.kept in
    subst (λ (f : Form). AfterTurns (take c.apply_run-in-Narrow64.result c.args.run.now) (held f c.args.places.now) (held f (record c.args.places.now { narrow64 = c.apply_run-in-Narrow64.new.self }))) (sym c.in-Narrow64.is)
    (taken64 c.args.qubits c.in-Narrow64.field-0 c.args.places.now c.apply_run-in-Narrow64.new.self (take c.apply_run-in-Narrow64.result c.args.run.now) kept c.apply_run-in-Narrow64.ensures.exact c.apply_run-in-Narrow64.ensures.within)
