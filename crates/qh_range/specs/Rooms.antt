-- A room for evaluations.
use Rattle.qh_plan.specs.Jobs.{Job}
use Rattle.qh_prefix.specs.declared.part.Part.TheVariants.{One, Two}
use Rattle.qh_range.specs.declared.side.Side.{Side}
use Rattle.qh_range.specs.Sides.{IsSide}

-- both parts are of the job
pub record IsRoom (j : Job) (first second : Side) : Type 0 where
  pub one : IsSide One j first
  pub two : IsSide Two j second
