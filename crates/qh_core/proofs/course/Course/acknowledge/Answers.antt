use Rattle.std.proofs.Common.{◌≡◌, ◌≢◌, ◌<◌, None, length, sym, ap, ◌∙◌, subst}
use Rattle.qh_lease.specs.declared.lease.Lease.TheVariants.{Acked}
use Rattle.qh_lease.specs.Lease.{lease_at}
use Rattle.qh_core.proofs.MoveLemmas.{waiting_is_open}
use Rattle.qh_core.proofs.HeldLemmas.{acked_held}
use Rattle.qh_core.proofs.course.Course.acknowledge.Goals as goal

pub invariant_of-self : goal.invariant_of-self
invariant_of-self c =
    let running : c.self.inside.fault ≡ None = ap (λ v. v.fault) c.self.view_is ∙ c.requires.running in
    let within : c.args.range < length c.self.inside.leases = subst (λ v. c.args.range < length v.leases) (sym c.self.view_is) c.requires.known in
    let waiting : lease_at c.self.inside.leases c.args.range ≢ Acked =
    subst (λ v. lease_at v.leases c.args.range ≢ Acked) (sym c.self.view_is) c.requires.waiting in
    rw (c.acknowledge.ensures, c.push_reserved.ensures.items, c.push_reserved.ensures.capacity)
    (acked_held _ _ _ _ _ c.args.range c.args.attempt c.self.invariant running within (waiting_is_open _ waiting) c.requires.attempt)
