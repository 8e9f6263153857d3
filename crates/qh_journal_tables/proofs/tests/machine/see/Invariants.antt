use Rattle.std.proofs.Common.{◌≡◌, length}
use Rattle.qh_journal_tables.proofs.tests.machine.see.Given as goal

abbrev pub invariant-loop-deed : goal.invariant-loop-deed
invariant-loop-deed l = length l.machine.leases ≡ 2
