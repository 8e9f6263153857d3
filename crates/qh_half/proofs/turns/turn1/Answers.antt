use Rattle.std.proofs.Common.{[], ◌∷◌, subst, sym}
use Rattle.qh_ring.specs.Matrices.{number_in}
use Rattle.qh_half.specs.declared.form.Form.{Form}
use Rattle.qh_half.specs.Halves.{AfterMatrix}
use Rattle.qh_half.specs.Forms.{held, IsKept}
use Rattle.qh_half.proofs.turns.turn1.Goals as goal

pub turn16-requires-clause-kept : goal.turn16-requires-clause-kept
turn16-requires-clause-kept c = subst (λ (f : Form). IsKept c.args.qubits f c.args.places.now) c.in-Narrow16.is c.requires.kept

pub returns-in-Narrow16-clause-numbers : goal.returns-in-Narrow16-clause-numbers
returns-in-Narrow16-clause-numbers c =
    subst (λ (f : Form). AfterMatrix (number_in c.args.m.now.rows) (c.args.q ∷ []) (held f c.args.places.now) (held c.turn16.result c.turn16.new.places)) (sym c.in-Narrow16.is) c.turn16.ensures.numbers

pub turn32-requires-clause-kept : goal.turn32-requires-clause-kept
turn32-requires-clause-kept c = subst (λ (f : Form). IsKept c.args.qubits f c.args.places.now) c.in-Narrow32.is c.requires.kept

pub returns-in-Narrow32-clause-numbers : goal.returns-in-Narrow32-clause-numbers
returns-in-Narrow32-clause-numbers c =
    subst (λ (f : Form). AfterMatrix (number_in c.args.m.now.rows) (c.args.q ∷ []) (held f c.args.places.now) (held c.turn32.result c.turn32.new.places)) (sym c.in-Narrow32.is) c.turn32.ensures.numbers

pub turn64-requires-clause-kept : goal.turn64-requires-clause-kept
turn64-requires-clause-kept c = subst (λ (f : Form). IsKept c.args.qubits f c.args.places.now) c.in-Narrow64.is c.requires.kept

pub returns-in-Narrow64-clause-numbers : goal.returns-in-Narrow64-clause-numbers
returns-in-Narrow64-clause-numbers c =
    subst (λ (f : Form). AfterMatrix (number_in c.args.m.now.rows) (c.args.q ∷ []) (held f c.args.places.now) (held c.turn64.result c.turn64.new.places)) (sym c.in-Narrow64.is) c.turn64.ensures.numbers

pub turn_wide-requires-clause-kept : goal.turn_wide-requires-clause-kept
turn_wide-requires-clause-kept c = subst (λ (f : Form). IsKept c.args.qubits f c.args.places.now) c.in-Wide.is c.requires.kept

pub returns-in-Wide-clause-numbers : goal.returns-in-Wide-clause-numbers
returns-in-Wide-clause-numbers c =
    subst (λ (f : Form). AfterMatrix (number_in c.args.m.now.rows) (c.args.q ∷ []) (held f c.args.places.now) (held c.turn_wide.result c.turn_wide.new.places)) (sym c.in-Wide.is) c.turn_wide.ensures.numbers
