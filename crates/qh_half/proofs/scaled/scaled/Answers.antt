use Rattle.std.proofs.Common.{◌≡◌, ◌≢◌, ◌+◌, ◌/◌, ℕ, suc, arith, subst, sym, ap, ◌∙◌}
use Rattle.qh_ring.specs.declared.number.Omega.{Omega}
use Rattle.qh_ring.specs.Numbers.{IsWithin, product, root, times_root}
use Rattle.qh_half.proofs.RootLemmas.{root_within}
use Rattle.qh_half.proofs.scaled.scaled.Goals as goal

odd : (roots : ℕ) → roots ≢ roots / 2 + roots / 2 → roots ≡ suc (roots / 2 + roots / 2)
odd roots n = omega arith

-- the number before the last root fits too
before : (roots : ℕ) (z : Omega) → roots ≢ roots / 2 + roots / 2 → IsWithin 126 (times_root roots z) → IsWithin 126 (times_root (roots / 2 + roots / 2) z)
before roots z n h = root_within 126 (times_root (roots / 2 + roots / 2) z) (subst (λ k. IsWithin 126 (times_root k z)) (odd roots n) h)

pub doubled-requires-clause-fits : goal.doubled-requires-clause-fits
doubled-requires-clause-fits c = subst (λ k. IsWithin 126 (times_root k c.args.z.now)) c.if-roots-twos.true c.requires.fits

pub doubled-requires-2-clause-fits : goal.doubled-requires-2-clause-fits
doubled-requires-2-clause-fits c = before c.args.roots c.args.z.now c.if-roots-twos.false c.requires.fits

pub rooted-requires-clause-here : goal.rooted-requires-clause-here
rooted-requires-clause-here c = subst (IsWithin 126) (sym c.doubled-2.ensures) (before c.args.roots c.args.z.now c.if-roots-twos.false c.requires.fits)

pub rooted-requires-clause-fits : goal.rooted-requires-clause-fits
rooted-requires-clause-fits c =
    subst (λ (t : Omega). IsWithin 126 (product root t)) (sym c.doubled-2.ensures)
    (subst (λ k. IsWithin 126 (times_root k c.args.z.now)) (odd c.args.roots c.if-roots-twos.false) c.requires.fits)

pub returns-clause-value : goal.returns-clause-value
returns-clause-value c =
    c.rooted.ensures ∙ ap (product root) c.doubled-2.ensures ∙ ap (λ k. times_root k c.args.z.now) (sym (odd c.args.roots c.if-roots-twos.false))

pub returns-clause-bounded : goal.returns-clause-bounded
returns-clause-bounded c =
    subst (IsWithin 126) (sym (c.rooted.ensures ∙ ap (product root) c.doubled-2.ensures ∙ ap (λ k. times_root k c.args.z.now) (sym (odd c.args.roots c.if-roots-twos.false)))) c.requires.fits
