-- Tickets and results.
use Rattle.std.specs.Prelude.{◌≡◌, ℕ, ◌<◌, ◌≤◌}
use Rattle.qh_limits.specs.Limits.{max_grants}
use Rattle.qh_plan.specs.declared.verdict.Verdict.{Verdict}
use Rattle.qh_plan.specs.Jobs.{Job, ranges}
use Rattle.qh_plan.specs.Values.{range_value}

-- leave to evaluate a range
pub record Ticket : Type 0 where
  pub range : ℕ
  pub attempt : ℕ

-- what an evaluation answers
pub record RangeResult : Type 0 where
  pub job : Job
  pub range : ℕ
  pub attempt : ℕ
  pub verdict : Verdict

-- what its type keeps: a range of its job, and that range's value
pub record IsResult (r : RangeResult) : Type 0 where
  pub below : r.range < ranges r.job
  pub few : r.attempt ≤ max_grants
  pub value : r.verdict ≡ range_value r.job r.range
