use Rattle.std.proofs.Common.{◌-◌, length}
use Rattle.qh_half.specs.Forms.{held}
use Rattle.qh_half.proofs.RunsLemmas.{IsPartWay}
use Rattle.qh_half.proofs.runs.turn_all.Given as goal

abbrev pub invariant-loop-done : goal.invariant-loop-done
invariant-loop-done l = IsPartWay l.qubits l.run l.done (held l.initial.form l.initial.places) l.form l.places

abbrev pub decreases-loop-done : goal.decreases-loop-done
decreases-loop-done l = length l.run - l.done
