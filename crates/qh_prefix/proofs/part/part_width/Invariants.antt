use Rattle.std.proofs.Common.{◌≡◌, ◌≤◌}
use Rattle.qh_plan.specs.Parts.{count_below}
use Rattle.qh_prefix.specs.Parts.{in_part}
use Rattle.qh_prefix.proofs.part.part_width.Given as goal

abbrev pub invariant-loop-qubit : goal.invariant-loop-qubit
invariant-loop-qubit l = record { now : l.count ≡ count_below (in_part l.part l.job) l.qubit; small : l.count ≤ l.qubit }
