use Rattle.std.proofs.Common.{◌≡◌, ◌<◌, None, true, length, sym, ap, ◌∙◌, subst}
use Rattle.qh_lease.specs.Lease.{lease_at, may_grant}
use Rattle.qh_core.proofs.HeldLemmas.{granted_held}
use Rattle.qh_core.proofs.course.Course.grant.Goals as goal

pub invariant_of-self : goal.invariant_of-self
invariant_of-self c =
    let running : c.self.inside.fault ≡ None = ap (λ v. v.fault) c.self.view_is ∙ c.requires.running in
    let within : c.args.range < length c.self.inside.leases = subst (λ v. c.args.range < length v.leases) (sym c.self.view_is) c.requires.known in
    let may : may_grant (lease_at c.self.inside.leases c.args.range) ≡ true =
    subst (λ v. may_grant (lease_at v.leases c.args.range) ≡ true) (sym c.self.view_is) c.requires.grantable in
    rw (c.grant-attempt.ensures.out, c.push_reserved.ensures.items, c.push_reserved.ensures.capacity)
    (granted_held _ _ _ _ _ c.args.range c.grant-attempt.result c.self.invariant running within may c.grant-attempt.ensures.attempt)
