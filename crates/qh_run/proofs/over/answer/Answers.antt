use Rattle.std.proofs.Common.{◌≡◌, List, length, All, refl, sym, ap, subst, ◌∙◌}
use Rattle.std.proofs.Math.Path.{ap₂}
use Rattle.qh_ring.specs.declared.number.Omega.{Omega}
use Rattle.qh_plan.specs.declared.verdict.Verdict.TheVariants.{Sum, Over}
use Rattle.qh_plan.specs.Slots.{over_or}
use Rattle.qh_limits.specs.Limits.{coefficient_bits}
use Rattle.qh_ring.specs.Numbers.{IsWithin}
use Rattle.qh_run.proofs.CompleteLemmas.{completes, over_or_is, sums_count}
use Rattle.qh_run.proofs.over.answer.Goals as goal

pub returns-in-Some-clause-whole : goal.returns-in-Some-clause-whole
returns-in-Some-clause-whole g c s0 began =
    let b = c.args.board.now in
    let known = c.finished.ensures in
    completes g.D.Disk.face b s0 known.valid began known.journal c.requires.running c.requires.all (Over c.in-Some.path)
    (over_or_is g.D.Disk.face b s0 known.valid began c.requires.valid known.journal ∙ ap (λ o. over_or o b.total.sums) (sym c.overflow.ensures ∙ c.in-Some.is))

pub returns-clause-whole : goal.returns-clause-whole
returns-clause-whole g c s0 began =
    let b = c.args.board.now in
    let known = c.finished.ensures in
    completes g.D.Disk.face b s0 known.valid began known.journal c.requires.running c.requires.all (Sum c.in_ok-sums.sums.items)
    (over_or_is g.D.Disk.face b s0 known.valid began c.requires.valid known.journal
    ∙ ap₂ over_or (sym c.overflow.ensures ∙ c.in_default.is) (sym c.sums.ensures.value ∙ sym c.in_ok-sums.ensures.items))

pub returns-clause-bounded : goal.returns-clause-bounded
returns-clause-bounded g c =
    let known = c.finished.ensures in
    let same = c.in_ok-sums.ensures.items ∙ c.sums.ensures.value in
    (ap (length {A = Omega}) (same ∙ known.valid.total.sums) ∙ sums_count c.args.board.now.job _, subst (All (IsWithin coefficient_bits)) (sym same) c.sums.ensures.within)
