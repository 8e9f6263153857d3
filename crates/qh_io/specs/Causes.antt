-- When a fault may be answered.
use Rattle.std.specs.Prelude.{◌≤◌, ℕ, Result, OnErr}
use Rattle.qh_limits.specs.Counts.{Rose}

-- the count of faults did not fall, and rose where the call failed
pub record HasCause {T E : Type 0} (before now : ℕ) (result : Result T E) : Type 0 where
  pub later : before ≤ now
  pub failed : OnErr result (Rose before now)
