-- What the loop over all ranges leaves.
use Rattle.std.specs.Prelude.{◌≡◌, All}
use Rattle.qh_limits.specs.Limits.{coefficient_bits}
use Rattle.qh_ring.specs.Numbers.{IsWithin}
use Rattle.qh_plan.specs.declared.verdict.Verdict.TheVariants.{Sum, Over as OverPath}
use Rattle.qh_plan.specs.Jobs.{Job}
use Rattle.qh_plan.specs.Values.{run_value}
use Rattle.qh_range.specs.declared.total.Total.{Total}
use Rattle.qh_range.specs.declared.total.Total.TheVariants.{Sums, Over}

-- the run's value: these sums, each within 126 bits, or this path
abbrev pub IsRunTotal : Job → Total → Type 0
IsRunTotal j (Sums v) = (run_value j ≡ Sum v.items) × All (IsWithin coefficient_bits) v.items
IsRunTotal j (Over path) = run_value j ≡ OverPath path
