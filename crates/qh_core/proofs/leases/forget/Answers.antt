use Rattle.std.proofs.Common.{refl}
use Rattle.qh_lease.specs.declared.lease.Lease.TheVariants.{Fresh}
use Rattle.qh_core.proofs.Replaced.{replaced_more}
use Rattle.qh_core.proofs.leases.forget.Goals as goal

pub loop-lease-preserved : goal.loop-lease-preserved
loop-lease-preserved c =
    replaced_more (λ _. Fresh) c.args.leases.now c.loop-lease.leases c.loop-lease.lease-index Fresh Fresh c.loop-lease-test.true c.loop-lease.auto.leases c.loop-lease.invariant refl
