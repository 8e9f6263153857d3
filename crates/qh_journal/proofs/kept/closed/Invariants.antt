use Rattle.std.proofs.Common.{◌≡◌, replicate, None}
use Rattle.qh_journal.proofs.kept.closed.Given as goal

abbrev pub invariant-loop-r : goal.invariant-loop-r
invariant-loop-r l = l.table.items ≡ replicate l.r None
