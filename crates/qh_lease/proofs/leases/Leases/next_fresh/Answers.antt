use Rattle.qh_lease.specs.Lease.{is_fresh}
use Rattle.qh_lease.proofs.Lowest.{lowest_lease}
use Rattle.qh_lease.proofs.leases.Leases.next_fresh.Goals as goal

pub returns-clause-found : goal.returns-clause-found
returns-clause-found c =
    let found = c.in-Some.ensures.found in
    rw (← c.self.view_is) (lowest_lease is_fresh _ c.self.inside.fresh _ _ c.self.invariant.fresh_is found.0 found.1)
