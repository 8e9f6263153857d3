use Rattle.std.proofs.Common.{take}
use Rattle.qh_prob.specs.Texts.{AreProbLines}
use Rattle.qh_prob.proofs.lines.prob_lines.Given as goal

abbrev pub invariant-loop-index : goal.invariant-loop-index
invariant-loop-index l = AreProbLines l.circuit (take l.index-index l.indices) l.text.items
