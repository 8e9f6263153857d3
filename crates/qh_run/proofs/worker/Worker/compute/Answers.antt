use Rattle.std.proofs.Common.{◌≡◌, ◌<◌, sym, ap, subst, ◌∙◌}
use Rattle.std.proofs.Math.Path.{ap₂}
use Rattle.std.specs.Arc.{arc_value}
use Rattle.qh_plan.specs.Jobs.{IsJob, prefixes, ranges}
use Rattle.qh_plan.specs.Ranges.{prefix_of}
use Rattle.qh_range.proofs.RootLemmas.{prefix_within}
use Rattle.qh_run.proofs.worker.Worker.compute.Goals as goal

pub point_for-requires-clause-below : goal.point_for-requires-clause-below
point_for-requires-clause-below g c =
    let j = arc_value c.self.inside.job in
    let range = c.args.ticket.now.range in
    let valid : IsJob j = subst IsJob c.deref.ensures c.ranges-2.ensures.valid in
    let below : range < ranges j = subst (λ k. range < ranges k) (sym c.self.view_is) c.requires in
    let same : c.prefix_of-prefix.result ≡ prefix_of j range = c.prefix_of-prefix.ensures.value ∙ ap₂ prefix_of c.deref-2.ensures c.range-2.ensures in
    subst (λ n. n < prefixes j) (sym same) (prefix_within j valid range below)
