use Rattle.std.proofs.Common.{arith, subst}
use Rattle.qh_plan.specs.Jobs.{IsJob}
use Rattle.qh_plan.proofs.RunLemmas.{IsCounted, counted, few_in_run}
use Rattle.qh_plan.proofs.job.Job.ranges.Goals as goal

pub range_count-requires : goal.range_count-requires
range_count-requires c =
    let k = counted _ _ c.self.invariant in
    rw (c.self.invariant.prefixes_are, c.self.invariant.roots_are) (omega (arith, k.pairs_few))

pub returns-clause-within : goal.returns-clause-within
returns-clause-within c =
    let k = subst IsCounted c.self.view_is (counted _ _ c.self.invariant) in
    let h = subst IsJob c.self.view_is c.self.invariant.planned.valid in
    few_in_run c.args.self.now h k
