use Rattle.qh_planner.proofs.TableLemmas.{IsBegun}
use Rattle.qh_planner.proofs.table.cut_table.Given as goal

abbrev pub invariant-loop-size : goal.invariant-loop-size
invariant-loop-size l = IsBegun (record { circuit = l.circuit; p = l.p; r = l.r; prefix = l.fn.w; bits = l.bits }) l.size l.table.items l.text.items
