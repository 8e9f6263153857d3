-- What a range costs. A step goes once over a half.
use Rattle.std.specs.Prelude.{ℕ, ◌+◌, ◌*◌}
use Rattle.qh_plan.specs.Jobs.{Job, per_range}
use Rattle.qh_prefix.specs.declared.stage.Stage.TheVariants.{Prefix, Root, Suffix}
use Rattle.qh_prefix.specs.Stages.{stage_steps}

-- from a checkpoint: the steps of the root once, and those of the suffix for each path
abbrev pub range_steps : Job → ℕ
range_steps j = stage_steps Root j + per_range j * stage_steps Suffix j

-- from the state with all qubits 0: those of the prefix too
abbrev pub whole_steps : Job → ℕ
whole_steps j = stage_steps Prefix j + range_steps j
