use Rattle.std.proofs.Common.{◌≡◌, ℕ, ◌*◌, Option, Some, arith, sym, ap, subst, ◌∙◌}
use Rattle.qh_plan.specs.Jobs.{Job, IsJob, roots, earlier}
use Rattle.qh_plan.proofs.RunLemmas.{IsCounted, counted, run_fits}
use Rattle.qh_plan.proofs.job.Job.earlier.Goals as goal

pub returns-in-Some-clause-within : goal.returns-in-Some-clause-within
returns-in-Some-clause-within c =
    let j = c.args.self.now in
    let k = subst IsCounted c.self.view_is (counted _ _ c.self.invariant) in
    let h = subst IsJob c.self.view_is c.self.invariant.planned.valid in
    let r : c.self.inside.roots ≡ roots j = c.self.invariant.roots_are ∙ ap roots c.self.view_is in
    let p : ◌≡◌ {A = Option ℕ} j.prefix (Some c.in-Some.value) = sym (ap (λ (x : Job). x.prefix) c.self.view_is) ∙ c.in-Some.is in
    let e : earlier j j.prefix ≡ c.in-Some.value * roots j = ap (earlier j) p in
    rw (c.from.ensures, r) (omega (arith, run_fits j h, k.pairs_few, e))
