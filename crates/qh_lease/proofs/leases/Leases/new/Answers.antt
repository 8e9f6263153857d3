use Rattle.std.proofs.Common.{◌≡◌, ap, sym, ◌∙◌, arith, replicate, length, map}
use Rattle.std.proofs.lemmas.List.{length-replicate}
use Rattle.qh_lease.specs.declared.lease.Lease.{Lease}
use Rattle.qh_lease.specs.declared.lease.Lease.TheVariants.{Fresh}
use Rattle.qh_lease.specs.Lease.{is_fresh, may_grant_returned, may_grant_out}
use Rattle.qh_lease.proofs.Lowest.{map-replicate}
use Rattle.qh_lease.proofs.leases.Leases.new.Goals as goal

pub invariant_of-result : goal.invariant_of-result
invariant_of-result c =
    let leases = c.in_ok-vec.field-0.items in
    let all : leases ≡ replicate c.args.ranges Fresh = c.in_ok-vec.ensures.items_if_clones_equal (λ y h. h) in
    record {
      few = omega (arith, ap length all, length-replicate {A = Lease});
      fresh_is = c.in_ok-new.ensures ∙ sym (ap (map is_fresh) all ∙ map-replicate is_fresh c.args.ranges Fresh);
      returned_is = c.in_ok-new-2.ensures ∙ sym (ap (map may_grant_returned) all ∙ map-replicate may_grant_returned c.args.ranges Fresh);
      out_is = c.in_ok-new-3.ensures ∙ sym (ap (map may_grant_out) all ∙ map-replicate may_grant_out c.args.ranges Fresh);
    }
