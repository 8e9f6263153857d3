use Rattle.std.proofs.Common.{◌^◌}
use Rattle.qh_narrow.proofs.WidenLemmas.{IsWider}
use Rattle.qh_narrow.proofs.widen.wider_lanes.Given as goal

abbrev pub invariant-loop-r : goal.invariant-loop-r
invariant-loop-r g l = IsWider (2 ^ g.W.Vector.PLACES) g.W.Vector.ROOM l.from (g.N.Vector.lanes l.x) (g.W.Vector.lanes l.wide) l.r
