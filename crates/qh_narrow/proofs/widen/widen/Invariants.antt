use Rattle.qh_narrow.proofs.WidenLemmas.{IsWidened}
use Rattle.qh_narrow.proofs.widen.widen.Given as goal

abbrev pub invariant-loop-k : goal.invariant-loop-k
invariant-loop-k g l = IsWidened g.N.Vector.lanes g.W.Vector.lanes g.N.Vector.PLACES g.W.Vector.PLACES l.narrow l.wide l.k
