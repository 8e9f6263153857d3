use Rattle.qh_narrow.specs.Factor.{with_factor}
use Rattle.qh_half.proofs.FormLemmas.{IsSpread}
use Rattle.qh_half.proofs.wide.write_all.Given as goal

abbrev pub invariant-loop-index : goal.invariant-loop-index
invariant-loop-index l = IsSpread (with_factor l.roots l.columns.numbers) l.list l.index
