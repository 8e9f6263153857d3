use Rattle.std.proofs.Common.{◌≡◌, ◌++◌, map, take, drop}
use Rattle.qh_lease.specs.declared.lease.Lease.TheVariants.{Fresh}
use Rattle.qh_core.proofs.leases.forget.Given as goal

abbrev pub invariant-loop-lease : goal.invariant-loop-lease
invariant-loop-lease l = l.leases ≡ map (λ _. Fresh) (take l.lease-index l.fn.leases) ++ drop l.lease-index l.fn.leases
