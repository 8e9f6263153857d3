use Rattle.std.proofs.Common.{arith, sym, subst, ◌∙◌}
use Rattle.std.proofs.lemmas.Int.{ints}
use Rattle.qh_ring.specs.Numbers.{IsWithin}
use Rattle.qh_ring.proofs.NumberLemmas.{same_number, at_power}
use Rattle.qh_ring.proofs.number.times_unit.Goals as goal

pub returns-in-0-clause-value : goal.returns-in-0-clause-value
returns-in-0-clause-value c = at_power c.args.j 0 c.args.z.now _ c.in-0.is (c.of_coefficients.ensures ∙ same_number _ _ (omega (arith, ints)) (omega (arith, ints)) (omega (arith, ints)) (omega (arith, ints)))

pub returns-in-1-clause-value : goal.returns-in-1-clause-value
returns-in-1-clause-value c = at_power c.args.j 1 c.args.z.now _ c.in-1.is (c.of_coefficients-in-1.ensures ∙ same_number _ _ (omega (arith, ints)) (omega (arith, ints)) (omega (arith, ints)) (omega (arith, ints)))

pub returns-in-2-clause-value : goal.returns-in-2-clause-value
returns-in-2-clause-value c = at_power c.args.j 2 c.args.z.now _ c.in-2.is (c.of_coefficients-in-2.ensures ∙ same_number _ _ (omega (arith, ints)) (omega (arith, ints)) (omega (arith, ints)) (omega (arith, ints)))

pub returns-in-2-clause-bounded : goal.returns-in-2-clause-bounded
returns-in-2-clause-bounded c =
    let a = c.requires.z_within.a in let b = c.requires.z_within.b in let cc = c.requires.z_within.c in let d = c.requires.z_within.d in
    subst (IsWithin 126) (sym c.of_coefficients-in-2.ensures) (record { a = omega (arith, ints); b = omega (arith, ints); c = omega (arith, ints); d = omega (arith, ints) })

pub returns-in-3-clause-value : goal.returns-in-3-clause-value
returns-in-3-clause-value c = at_power c.args.j 3 c.args.z.now _ c.in-3.is (c.of_coefficients-in-3.ensures ∙ same_number _ _ (omega (arith, ints)) (omega (arith, ints)) (omega (arith, ints)) (omega (arith, ints)))

pub returns-in-3-clause-bounded : goal.returns-in-3-clause-bounded
returns-in-3-clause-bounded c =
    let a = c.requires.z_within.a in let b = c.requires.z_within.b in let cc = c.requires.z_within.c in let d = c.requires.z_within.d in
    subst (IsWithin 126) (sym c.of_coefficients-in-3.ensures) (record { a = omega (arith, ints); b = omega (arith, ints); c = omega (arith, ints); d = omega (arith, ints) })

pub returns-in-4-clause-value : goal.returns-in-4-clause-value
returns-in-4-clause-value c = at_power c.args.j 4 c.args.z.now _ c.in-4.is (c.of_coefficients-in-4.ensures ∙ same_number _ _ (omega (arith, ints)) (omega (arith, ints)) (omega (arith, ints)) (omega (arith, ints)))

pub returns-in-4-clause-bounded : goal.returns-in-4-clause-bounded
returns-in-4-clause-bounded c =
    let a = c.requires.z_within.a in let b = c.requires.z_within.b in let cc = c.requires.z_within.c in let d = c.requires.z_within.d in
    subst (IsWithin 126) (sym c.of_coefficients-in-4.ensures) (record { a = omega (arith, ints); b = omega (arith, ints); c = omega (arith, ints); d = omega (arith, ints) })

pub returns-in-5-clause-value : goal.returns-in-5-clause-value
returns-in-5-clause-value c = at_power c.args.j 5 c.args.z.now _ c.in-5.is (c.of_coefficients-in-5.ensures ∙ same_number _ _ (omega (arith, ints)) (omega (arith, ints)) (omega (arith, ints)) (omega (arith, ints)))

pub returns-in-5-clause-bounded : goal.returns-in-5-clause-bounded
returns-in-5-clause-bounded c =
    let a = c.requires.z_within.a in let b = c.requires.z_within.b in let cc = c.requires.z_within.c in let d = c.requires.z_within.d in
    subst (IsWithin 126) (sym c.of_coefficients-in-5.ensures) (record { a = omega (arith, ints); b = omega (arith, ints); c = omega (arith, ints); d = omega (arith, ints) })

pub returns-in-6-clause-value : goal.returns-in-6-clause-value
returns-in-6-clause-value c = at_power c.args.j 6 c.args.z.now _ c.in-6.is (c.of_coefficients-in-6.ensures ∙ same_number _ _ (omega (arith, ints)) (omega (arith, ints)) (omega (arith, ints)) (omega (arith, ints)))

pub returns-in-6-clause-bounded : goal.returns-in-6-clause-bounded
returns-in-6-clause-bounded c =
    let a = c.requires.z_within.a in let b = c.requires.z_within.b in let cc = c.requires.z_within.c in let d = c.requires.z_within.d in
    subst (IsWithin 126) (sym c.of_coefficients-in-6.ensures) (record { a = omega (arith, ints); b = omega (arith, ints); c = omega (arith, ints); d = omega (arith, ints) })

pub returns-in_default-clause-value : goal.returns-in_default-clause-value
returns-in_default-clause-value c = at_power c.args.j 7 c.args.z.now _ (omega arith) (c.of_coefficients-in_default.ensures ∙ same_number _ _ (omega (arith, ints)) (omega (arith, ints)) (omega (arith, ints)) (omega (arith, ints)))

pub returns-in_default-clause-bounded : goal.returns-in_default-clause-bounded
returns-in_default-clause-bounded c =
    let a = c.requires.z_within.a in let b = c.requires.z_within.b in let cc = c.requires.z_within.c in let d = c.requires.z_within.d in
    subst (IsWithin 126) (sym c.of_coefficients-in_default.ensures) (record { a = omega (arith, ints); b = omega (arith, ints); c = omega (arith, ints); d = omega (arith, ints) })
