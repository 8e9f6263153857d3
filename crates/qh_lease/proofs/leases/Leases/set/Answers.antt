use Rattle.std.proofs.Common.{ap, ◌∙◌, arith, set}
use Rattle.std.proofs.lemmas.List.{length-set, map-set}
use Rattle.qh_lease.specs.declared.lease.Lease.{Lease}
use Rattle.qh_lease.specs.Lease.{is_fresh, may_grant_returned, may_grant_out}
use Rattle.qh_lease.proofs.leases.Leases.set.Goals as goal

pub invariant_of-self : goal.invariant_of-self
invariant_of-self c =
    let leases = c.self.inside.leases.items in
    let range = c.args.range in
    let lease = c.args.lease in
    record {
      few = omega (arith, length-set {A = Lease});
      fresh_is = rw (map-set is_fresh leases range lease, ← c.self.invariant.fresh_is) (c.set.ensures ∙ ap (set c.self.inside.fresh range) c.is_fresh.ensures);
      returned_is = rw (map-set may_grant_returned leases range lease, ← c.self.invariant.returned_is) (c.set-2.ensures ∙ ap (set c.self.inside.returned range) c.may_grant_returned.ensures);
      out_is = rw (map-set may_grant_out leases range lease, ← c.self.invariant.out_is) (c.set-3.ensures ∙ ap (set c.self.inside.out range) c.may_grant_out.ensures);
    }
