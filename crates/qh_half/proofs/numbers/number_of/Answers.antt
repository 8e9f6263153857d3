use Rattle.std.proofs.Common.{◌≡◌, arith, subst, sym, ap, ◌∙◌}
use Rattle.std.specs.Option.{IfSome}
use Rattle.qh_ring.specs.declared.number.Omega.{Omega}
use Rattle.qh_ring.specs.Numbers.{IsWithin, times_root}
use Rattle.qh_ring.specs.States.{at_index}
use Rattle.qh_half.specs.declared.form.Form.{Form}
use Rattle.qh_narrow.proofs.FactorLemmas.{at_factor}
use Rattle.qh_half.specs.Forms.{held, IsKept}
use Rattle.qh_half.proofs.FormLemmas.{within_more}
use Rattle.qh_half.proofs.RootLemmas.{fits_at}
use Rattle.qh_half.proofs.numbers.number_of.Goals as goal

pub scaled-requires-clause-few : goal.scaled-requires-clause-few
scaled-requires-clause-few c =
    let kept : IsKept c.args.qubits (Form.Narrow16 c.in-Narrow16.roots) c.args.places.now = subst (λ (f : Form). IsKept c.args.qubits f c.args.places.now) c.in-Narrow16.is c.requires.kept in
    let l = kept.roots in omega arith

pub scaled-requires-clause-here : goal.scaled-requires-clause-here
scaled-requires-clause-here c = within_more 14 126 c.at.result (omega arith) c.at.ensures.within

pub scaled-requires-clause-fits : goal.scaled-requires-clause-fits
scaled-requires-clause-fits c =
    let kept : IsKept c.args.qubits (Form.Narrow16 c.in-Narrow16.roots) c.args.places.now = subst (λ (f : Form). IsKept c.args.qubits f c.args.places.now) c.in-Narrow16.is c.requires.kept in
    subst (λ (t : Omega). IsWithin 126 (times_root c.in-Narrow16.roots t)) (sym c.at.ensures.value)
    (fits_at c.args.qubits c.in-Narrow16.roots c.args.places.now.narrow16.numbers c.args.index kept.vector c.requires.index)

pub returns-in-Narrow16-clause-value : goal.returns-in-Narrow16-clause-value
returns-in-Narrow16-clause-value c =
    subst (λ (f : Form). IfSome (held f c.args.places.now) (λ v. c.scaled.result ≡ at_index v c.args.index)) (sym c.in-Narrow16.is)
    (c.scaled.ensures.value ∙ ap (times_root c.in-Narrow16.roots) c.at.ensures.value ∙ sym (at_factor c.in-Narrow16.roots c.args.places.now.narrow16.numbers c.args.index))

pub scaled-requires-in-Narrow32-clause-few : goal.scaled-requires-in-Narrow32-clause-few
scaled-requires-in-Narrow32-clause-few c =
    let kept : IsKept c.args.qubits (Form.Narrow32 c.in-Narrow32.roots) c.args.places.now = subst (λ (f : Form). IsKept c.args.qubits f c.args.places.now) c.in-Narrow32.is c.requires.kept in
    let l = kept.roots in omega arith

pub scaled-requires-in-Narrow32-clause-here : goal.scaled-requires-in-Narrow32-clause-here
scaled-requires-in-Narrow32-clause-here c = within_more 30 126 c.at-in-Narrow32.result (omega arith) c.at-in-Narrow32.ensures.within

pub scaled-requires-in-Narrow32-clause-fits : goal.scaled-requires-in-Narrow32-clause-fits
scaled-requires-in-Narrow32-clause-fits c =
    let kept : IsKept c.args.qubits (Form.Narrow32 c.in-Narrow32.roots) c.args.places.now = subst (λ (f : Form). IsKept c.args.qubits f c.args.places.now) c.in-Narrow32.is c.requires.kept in
    subst (λ (t : Omega). IsWithin 126 (times_root c.in-Narrow32.roots t)) (sym c.at-in-Narrow32.ensures.value)
    (fits_at c.args.qubits c.in-Narrow32.roots c.args.places.now.narrow32.numbers c.args.index kept.vector c.requires.index)

pub returns-in-Narrow32-clause-value : goal.returns-in-Narrow32-clause-value
returns-in-Narrow32-clause-value c =
    subst (λ (f : Form). IfSome (held f c.args.places.now) (λ v. c.scaled-in-Narrow32.result ≡ at_index v c.args.index)) (sym c.in-Narrow32.is)
    (c.scaled-in-Narrow32.ensures.value ∙ ap (times_root c.in-Narrow32.roots) c.at-in-Narrow32.ensures.value ∙ sym (at_factor c.in-Narrow32.roots c.args.places.now.narrow32.numbers c.args.index))

pub scaled-requires-in-Narrow64-clause-few : goal.scaled-requires-in-Narrow64-clause-few
scaled-requires-in-Narrow64-clause-few c =
    let kept : IsKept c.args.qubits (Form.Narrow64 c.in-Narrow64.roots) c.args.places.now = subst (λ (f : Form). IsKept c.args.qubits f c.args.places.now) c.in-Narrow64.is c.requires.kept in
    let l = kept.roots in omega arith

pub scaled-requires-in-Narrow64-clause-here : goal.scaled-requires-in-Narrow64-clause-here
scaled-requires-in-Narrow64-clause-here c = within_more 62 126 c.at-in-Narrow64.result (omega arith) c.at-in-Narrow64.ensures.within

pub scaled-requires-in-Narrow64-clause-fits : goal.scaled-requires-in-Narrow64-clause-fits
scaled-requires-in-Narrow64-clause-fits c =
    let kept : IsKept c.args.qubits (Form.Narrow64 c.in-Narrow64.roots) c.args.places.now = subst (λ (f : Form). IsKept c.args.qubits f c.args.places.now) c.in-Narrow64.is c.requires.kept in
    subst (λ (t : Omega). IsWithin 126 (times_root c.in-Narrow64.roots t)) (sym c.at-in-Narrow64.ensures.value)
    (fits_at c.args.qubits c.in-Narrow64.roots c.args.places.now.narrow64.numbers c.args.index kept.vector c.requires.index)

pub returns-in-Narrow64-clause-value : goal.returns-in-Narrow64-clause-value
returns-in-Narrow64-clause-value c =
    subst (λ (f : Form). IfSome (held f c.args.places.now) (λ v. c.scaled-in-Narrow64.result ≡ at_index v c.args.index)) (sym c.in-Narrow64.is)
    (c.scaled-in-Narrow64.ensures.value ∙ ap (times_root c.in-Narrow64.roots) c.at-in-Narrow64.ensures.value ∙ sym (at_factor c.in-Narrow64.roots c.args.places.now.narrow64.numbers c.args.index))
