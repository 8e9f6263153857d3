use Rattle.std.proofs.Common.{◌≡◌, ◌≤◌}
use Rattle.qh_plan.specs.Parts.{count_below}
use Rattle.qh_prefix.specs.Parts.{in_part, numbers_below}
use Rattle.qh_prefix.proofs.part.local_numbers.Given as goal

abbrev pub invariant-loop-qubit : goal.invariant-loop-qubit
invariant-loop-qubit l = record {
  numbers : l.numbers.items ≡ numbers_below (in_part l.part l.job) l.qubit;
  count : l.count ≡ count_below (in_part l.part l.job) l.qubit;
  small : l.count ≤ l.qubit;
}
