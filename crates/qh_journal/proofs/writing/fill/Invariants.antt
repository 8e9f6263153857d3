use Rattle.std.proofs.Common.{◌≡◌, take, drop}
use Rattle.qh_parts.specs.Groups.{filled}
use Rattle.qh_journal.proofs.writing.fill.Given as goal

abbrev pub invariant-loop-k : goal.invariant-loop-k
invariant-loop-k l = record {
  rest : l.group.items ≡ drop l.k l.initial.group.items;
  table : l.table.items ≡ filled l.initial.table.items (take l.k l.initial.group.items);
}
