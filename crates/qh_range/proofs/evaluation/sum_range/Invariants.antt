use Rattle.std.proofs.Common.{◌≡◌, ◌+◌, ◌*◌, ◌≤◌}
use Rattle.qh_prefix.specs.declared.part.Part.TheVariants as Parts
use Rattle.qh_prefix.specs.declared.stage.Stage.TheVariants.{Suffix}
use Rattle.qh_prefix.specs.Stages.{stage_steps}
use Rattle.qh_range.specs.Sides.{IsSide}
use Rattle.qh_range.proofs.ValueLemmas.{IsSummed}
use Rattle.qh_range.proofs.evaluation.sum_range.Given as goal

abbrev pub invariant-loop-k : goal.invariant-loop-k
invariant-loop-k g l = record {
  one : IsSide Parts.One l.job l.one;
  two : IsSide Parts.Two l.job l.two;
  one_root : l.one.root ≡ l.initial.one.root;
  two_root : l.two.root ≡ l.initial.two.root;
  summed : IsSummed l.job l.first l.k l.sums.items;
  steps : l.steps ≤ l.initial.steps + l.k * stage_steps Suffix l.job;
}
