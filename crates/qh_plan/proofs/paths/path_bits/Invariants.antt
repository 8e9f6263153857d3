use Rattle.std.proofs.Common.{◌≡◌, ◌≤◌, ◌*◌, take}
use Rattle.qh_plan.specs.Plans.{path_bits}
use Rattle.qh_plan.proofs.paths.path_bits.Given as goal

abbrev pub invariant-loop-radix : goal.invariant-loop-radix
invariant-loop-radix l = record {
  value : l.bits ≡ path_bits (take l.radix-index l.radices);
  bounded : l.bits ≤ 2 * l.radix-index;
}
