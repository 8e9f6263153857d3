use Rattle.std.proofs.Common.{◌^◌}
use Rattle.qh_blocks.proofs.ScanLemmas.{IsMostOf}
use Rattle.qh_blocks.proofs.scan.bits_of.Given as goal

abbrev pub invariant-loop-k : goal.invariant-loop-k
invariant-loop-k g l = IsMostOf g.V.Vector.lanes (2 ^ g.V.Vector.PLACES) g.V.Vector.ROOM l.v l.k (g.V.Vector.lanes l.most)
