-- What a checkpoint holds.
use Rattle.std.specs.Prelude.{◌≡◌, ℕ, ◌<◌, List, Some}
use Rattle.qh_ring.specs.States.{ground}
use Rattle.qh_gates.specs.Evolution.{Operation}
use Rattle.qh_plan.specs.Paths.{path_digits}
use Rattle.qh_plan.specs.Jobs.{Job, prefixes}
use Rattle.qh_half.specs.Halves.{Half}
use Rattle.qh_plan.specs.Halves.{half_operations}
use Rattle.qh_plan.specs.Traces.{half_after, HoldsHalf}
use Rattle.qh_prefix.specs.declared.part.Part.{Part}
use Rattle.qh_prefix.specs.declared.part.Part.TheVariants.{One, Two}
use Rattle.qh_prefix.specs.declared.stage.Stage.TheVariants.{Prefix}
use Rattle.qh_prefix.specs.Parts.{in_part, width}
use Rattle.qh_prefix.specs.Stages.{stage_gates, stage_radices}

-- a job, a prefix value of it, and a half of each part
pub record Checkpoint : Type 0 where
  pub job : Job
  pub prefix : ℕ
  pub one : Half
  pub two : Half

-- the digits of a prefix value: the terms that it picks
abbrev pub prefix_digits : Job → ℕ → List ℕ
prefix_digits j w = path_digits (stage_radices Prefix j) w

-- what the gates before crossing gate p do to a part, each that crosses by the term that the prefix value picks
abbrev pub prefix_operations : Part → Job → ℕ → List Operation
prefix_operations part j w = half_operations (in_part part j) (stage_gates Prefix j) (prefix_digits j w)

-- the half of a part after them, from all qubits 0
pub record IsAtPrefix (part : Part) (j : Job) (w : ℕ) (h : Half) : Type 0 where
  pub size : h.qubits ≡ width part j
  pub holds : HoldsHalf (width part j) (half_after (width part j) (Some ground) (prefix_operations part j w)) h.numbers

-- what the type of a checkpoint keeps
pub record IsCheckpoint (c : Checkpoint) : Type 0 where
  pub below : c.prefix < prefixes c.job
  pub one : IsAtPrefix One c.job c.prefix c.one
  pub two : IsAtPrefix Two c.job c.prefix c.two
