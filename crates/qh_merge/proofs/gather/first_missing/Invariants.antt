use Rattle.std.proofs.Common.{ℕ, ◌<◌}
use Rattle.qh_merge.specs.Gathered.{IsKept}
use Rattle.qh_merge.proofs.gather.first_missing.Given as goal

abbrev pub invariant-loop-w : goal.invariant-loop-w
invariant-loop-w l = (v : ℕ) → v < l.w → IsKept v l.prefixes
