use Rattle.std.proofs.Common.{◌≡◌, ◌-◌, ◌/◌, ◌<◌, ◌≤◌, Some, arith, refl, ap, subst, ◌∙◌}
use Rattle.qh_plan.specs.Jobs.{IsJob, per_range, ranges}
use Rattle.qh_plan.proofs.RunLemmas.{IsCounted, counted, place_in, in_place, place_of_run, run_of_range}
use Rattle.qh_plan.proofs.job.Job.range_of.Goals as goal

pub nonzero_div-place : goal.nonzero_div-place
nonzero_div-place c =
    let k = counted _ _ c.self.invariant in
    rw c.self.invariant.per_range_is k.some_path

pub returns-then-place-earlier-clause-run : goal.returns-then-place-earlier-clause-run
returns-then-place-earlier-clause-run c =
    let k = subst IsCounted c.self.view_is (counted _ _ c.self.invariant) in
    let n : c.self.inside.per_range ≡ per_range c.args.self.now = c.self.invariant.per_range_is ∙ ap per_range c.self.view_is in
    let e = c.earlier-earlier.ensures.value in
    let t = subst (λ m. c.args.path / m < c.earlier-earlier.result) n c.if-place-earlier.true in
    (λ f. absurd (cc), λ r. let p = place_of_run c.args.self.now c.args.path k r in absurd (omega (arith, p.0, t, e)))

pub returns-then-place-earlier-2-clause-alone : goal.returns-then-place-earlier-2-clause-alone
returns-then-place-earlier-2-clause-alone c = λ i l r.
    let n : c.self.inside.per_range ≡ per_range c.args.self.now = c.self.invariant.per_range_is ∙ ap per_range c.self.view_is in
    let e = c.earlier-earlier.ensures.value in
    let p = place_in c.args.self.now i c.args.path r in
    let t = subst (λ m. ranges c.args.self.now ≤ c.args.path / m - c.earlier-earlier.result) n (rw (c.from.ensures, c.ranges-2.ensures.value) at c.if-place-earlier-2.true) in
    absurd (omega (arith, p, t, e, l))

pub returns-then-place-earlier-2-clause-run : goal.returns-then-place-earlier-2-clause-run
returns-then-place-earlier-2-clause-run c =
    let k = subst IsCounted c.self.view_is (counted _ _ c.self.invariant) in
    let n : c.self.inside.per_range ≡ per_range c.args.self.now = c.self.invariant.per_range_is ∙ ap per_range c.self.view_is in
    let e = c.earlier-earlier.ensures.value in
    let t = subst (λ m. ranges c.args.self.now ≤ c.args.path / m - c.earlier-earlier.result) n (rw (c.from.ensures, c.ranges-2.ensures.value) at c.if-place-earlier-2.true) in
    (λ f. absurd (cc), λ r. let p = place_of_run c.args.self.now c.args.path k r in absurd (omega (arith, p.1, t, e)))

pub returns-clause-found : goal.returns-clause-found
returns-clause-found c =
    let k = subst IsCounted c.self.view_is (counted _ _ c.self.invariant) in
    let n : c.self.inside.per_range ≡ per_range c.args.self.now = c.self.invariant.per_range_is ∙ ap per_range c.self.view_is in
    let e = c.earlier-earlier.ensures.value in
    let below = subst (λ m. c.earlier-earlier.result ≤ c.args.path / m) n c.if-place-earlier.false in
    let t = subst (λ m. c.args.path / m - c.earlier-earlier.result < ranges c.args.self.now) n (rw (c.from.ensures, c.ranges-2.ensures.value) at c.if-place-earlier-2.false) in
    rw n (t, in_place c.args.self.now _ c.args.path k.some_path (omega (arith, e, below)))

pub returns-clause-alone : goal.returns-clause-alone
returns-clause-alone c = λ i l r.
    let n : c.self.inside.per_range ≡ per_range c.args.self.now = c.self.invariant.per_range_is ∙ ap per_range c.self.view_is in
    let e = c.earlier-earlier.ensures.value in
    let p = place_in c.args.self.now i c.args.path r in
    let same : c.args.path / per_range c.args.self.now - c.earlier-earlier.result ≡ i = omega (arith, p, e) in
    rw n (ap Some same)

pub returns-clause-run : goal.returns-clause-run
returns-clause-run c =
    let k = subst IsCounted c.self.view_is (counted _ _ c.self.invariant) in
    let h = subst IsJob c.self.view_is c.self.invariant.planned.valid in
    let n : c.self.inside.per_range ≡ per_range c.args.self.now = c.self.invariant.per_range_is ∙ ap per_range c.self.view_is in
    let e = c.earlier-earlier.ensures.value in
    let below = subst (λ m. c.earlier-earlier.result ≤ c.args.path / m) n c.if-place-earlier.false in
    let t = subst (λ m. c.args.path / m - c.earlier-earlier.result < ranges c.args.self.now) n (rw (c.from.ensures, c.ranges-2.ensures.value) at c.if-place-earlier-2.false) in
    (λ f. run_of_range c.args.self.now _ c.args.path h k t (in_place c.args.self.now _ c.args.path k.some_path (omega (arith, e, below))), λ r. refl)
