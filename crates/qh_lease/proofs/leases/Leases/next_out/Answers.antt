use Rattle.qh_lease.specs.Lease.{may_grant_out}
use Rattle.qh_lease.proofs.Lowest.{lowest_lease}
use Rattle.qh_lease.proofs.leases.Leases.next_out.Goals as goal

pub returns-clause-found : goal.returns-clause-found
returns-clause-found c =
    let found = c.in-Some.ensures.found in
    rw (← c.self.view_is) (lowest_lease may_grant_out _ c.self.inside.out _ _ c.self.invariant.out_is found.0 found.1)
