use Rattle.qh_uncut.proofs.StateLemmas.{IsWritten}
use Rattle.qh_uncut.proofs.evolution.numbers_of.Given as goal

abbrev pub invariant-loop-index : goal.invariant-loop-index
invariant-loop-index l = IsWritten l.state.numbers l.index l.numbers.items
