use Rattle.std.proofs.Common.{◌≡◌, ◌<◌, ℕ, sym, subst}
use Rattle.qh_plan.specs.Jobs.{prefixes}
use Rattle.qh_range.proofs.RootLemmas.{prefix_within}
use Rattle.qh_workers.proofs.points.prefix_at.Goals as goal

pub returns-clause-below : goal.returns-clause-below
returns-clause-below c =
    let j = c.args.job.now in
    subst (λ (n : ℕ). n < prefixes j) (sym c.prefix_of.ensures.value) (prefix_within j c.paths-paths.ensures.valid c.args.range c.requires)
