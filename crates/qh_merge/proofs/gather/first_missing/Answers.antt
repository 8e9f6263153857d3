use Rattle.std.proofs.Common.{below_more}
use Rattle.qh_merge.proofs.gather.first_missing.Goals as goal

pub loop-w-preserved : goal.loop-w-preserved
loop-w-preserved c = below_more _ _ c.loop-w.invariant (record { place = c.in-Some.field-0; inside = c.in-Some.ensures.inside; is = c.in-Some.ensures.is })
