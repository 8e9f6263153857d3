use Rattle.std.proofs.Common.{◌≡◌, ℕ, ◌<◌, slice_index_or}
use Rattle.qh_ring.specs.declared.matrix.Entry.TheVariants.{Zero}
use Rattle.qh_uncut.proofs.entries.only_entry.Given as goal

abbrev pub invariant-loop-column : goal.invariant-loop-column
invariant-loop-column l = (k : ℕ) → k < l.column → slice_index_or l.row k Zero ≡ Zero
