use Rattle.std.proofs.Common.{◌≡◌, take}
use Rattle.qh_merge.specs.Union.{least_after, sums_after}
use Rattle.qh_merge.proofs.slots.add_table.Given as goal

abbrev pub invariant-loop-r : goal.invariant-loop-r
invariant-loop-r l = record {
  sums : l.sums ≡ sums_after l.initial.sums (take l.r l.table);
  least : l.least ≡ least_after l.fn.over (take l.r l.table);
}
