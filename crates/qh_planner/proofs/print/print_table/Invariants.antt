use Rattle.std.proofs.Common.{◌≡◌, take}
use Rattle.qh_planner.specs.Spelling.{table_text}
use Rattle.qh_planner.proofs.print.print_table.Given as goal

abbrev pub invariant-loop-row : goal.invariant-loop-row
invariant-loop-row l = l.text.items ≡ table_text (take l.row-index l.table)
