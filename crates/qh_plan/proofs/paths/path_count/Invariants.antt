use Rattle.std.proofs.Common.{◌≡◌, ◌*◌, drop}
use Rattle.qh_plan.specs.Paths.{path_count}
use Rattle.qh_plan.proofs.paths.path_count.Given as goal

abbrev pub invariant-loop-radix : goal.invariant-loop-radix
invariant-loop-radix l = l.count * path_count (drop l.radix-index l.radices) ≡ path_count l.radices
