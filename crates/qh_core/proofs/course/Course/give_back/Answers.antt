use Rattle.std.proofs.Common.{◌≡◌, ◌<◌, None, length, set, subst}
use Rattle.qh_lease.specs.declared.lease.Lease.TheVariants.{Out, Returned}
use Rattle.qh_lease.specs.Lease.{lease_at}
use Rattle.qh_core.proofs.HeldLemmas.{no_fault, back_held}
use Rattle.qh_core.proofs.course.Course.give_back.Goals as goal

pub invariant_of-self-2 : goal.invariant_of-self-2
invariant_of-self-2 c =
    let running : c.self.inside.fault ≡ None = no_fault c.self.inside.fault c.if-is_some.ensures in
    let within : c.args.range < length c.self.inside.leases = subst (λ n. c.args.range < n) c.self.invariant.ranges_is c.if-range-self.false in
    let out : lease_at c.self.inside.leases c.args.range ≡ Out c.args.attempt = c.give_back.ensures.held.0 c.if-not-give_back.false in
    let back : c.give_back.new.self ≡ set c.self.inside.leases c.args.range (Returned c.args.attempt) = c.if-not-give_back.ensures.returned in
    rw (back, c.push_reserved.ensures.items, c.push_reserved.ensures.capacity)
    (back_held _ _ _ _ _ c.args.range c.args.attempt c.self.invariant running within out)
