use Rattle.qh_plan.proofs.RunLemmas.{counted}
use Rattle.qh_plan.proofs.job.Job.fits.Goals as goal

pub are_sums-requires : goal.are_sums-requires
are_sums-requires c =
    let k = counted _ _ c.self.invariant in
    rw c.self.invariant.per_range_is k.few_in_range
