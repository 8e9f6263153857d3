use Rattle.std.proofs.Common.{◌≡◌, take, map, All}
use Rattle.qh_ring.specs.Numbers.{IsWithin}
use Rattle.qh_ring.specs.States.{at_index}
use Rattle.qh_top.proofs.answer.values_at.Given as goal

abbrev pub invariant-loop-index : goal.invariant-loop-index
invariant-loop-index l = record {
  values : l.values.items ≡ map (at_index l.numbers) (take l.index-index l.indices);
  within : All (IsWithin 126) l.values.items;
}
