use Rattle.std.proofs.Common.{◌≡◌, ◌+◌, drop}
use Rattle.qh_plan.specs.Jobs.{in_one}
use Rattle.qh_prefix.specs.Stages.{gates_before}
use Rattle.qh_prefix.proofs.stage.gates_before.Given as goal

abbrev pub invariant-loop-place : goal.invariant-loop-place
invariant-loop-place l = gates_before (in_one l.job) l.number l.gates ≡ l.place + gates_before (in_one l.job) l.left (drop l.place l.gates)
