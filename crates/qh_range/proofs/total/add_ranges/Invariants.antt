use Rattle.std.proofs.Common.{◌≡◌}
use Rattle.std.specs.Arc.{arc_value}
use Rattle.qh_plan.specs.declared.verdict.Verdict.TheVariants.{Sum}
use Rattle.qh_range.specs.Totals.{total_of}
use Rattle.qh_range.proofs.total.add_ranges.Given as goal

abbrev pub invariant-loop-range : goal.invariant-loop-range
invariant-loop-range g l = record {
  room : l.room ≡ arc_value l.job;
  total : total_of (arc_value l.job) l.range ≡ Sum l.sums;
}
