use Rattle.std.proofs.Common.{◌≡◌, ◌<◌, [], None, length, sym, ap, ◌∙◌, subst}
use Rattle.qh_lease.specs.declared.lease.Lease.TheVariants.{Fresh}
use Rattle.qh_lease.specs.Lease.{lease_at}
use Rattle.qh_core.proofs.HeldLemmas.{begun_held}
use Rattle.qh_core.proofs.course.Course.begin.Goals as goal

pub invariant_of-self : goal.invariant_of-self
invariant_of-self c =
    let early : c.self.inside.history.items ≡ [] = ap (λ v. v.history) c.self.view_is ∙ c.requires.early in
    let running : c.self.inside.fault ≡ None = ap (λ v. v.fault) c.self.view_is ∙ c.requires.running in
    let within : c.args.range < length c.self.inside.leases = subst (λ v. c.args.range < length v.leases) (sym c.self.view_is) c.requires.known in
    let fresh : lease_at c.self.inside.leases c.args.range ≡ Fresh =
    subst (λ v. lease_at v.leases c.args.range ≡ Fresh) (sym c.self.view_is) c.requires.fresh in
    rw c.acknowledge.ensures (begun_held _ _ _ _ _ c.args.range c.self.invariant early running within fresh)
