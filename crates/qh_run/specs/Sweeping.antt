-- What a sweep gathers.
use Rattle.std.specs.Prelude.{◌≡◌, ◌⊎◌, ℕ, ◌<◌, ◌≤◌, false, List, [], ◌∷◌, All, length}
use Rattle.qh_plan.specs.Jobs.{Job, ranges}
use Rattle.qh_lease.specs.declared.lease.Lease.{Lease}
use Rattle.qh_lease.specs.Lease.{lease_at}
use Rattle.qh_core.specs.Replay.{is_open}
use Rattle.qh_range.specs.Results.{RangeResult}

-- one of the results is that of this range
abbrev pub Gathers : List RangeResult → ℕ → Type 0
Gathers [] range = ⊥
Gathers (r ∷ group) range = (r.range ≡ range) ⊎ Gathers group range

-- The results are of the job's ranges, and each range from one number up to another is acknowledged or has its result among them.
pub record IsGathered (j : Job) (leases : List Lease) (from next : ℕ) (group : List RangeResult) : Type 0 where
  pub job : All (λ r. r.job ≡ j) group
  pub below : All (λ r. r.range < length leases) group
  pub each : (range : ℕ) → from ≤ range → range < next → (is_open (lease_at leases range) ≡ false) ⊎ Gathers group range
