use Rattle.qh_ring.specs.Numbers.{product}
use Rattle.qh_plan.specs.MeaningLimits.{are_narrow}
use Rattle.qh_prefix.specs.declared.part.Part.TheVariants as Parts
use Rattle.qh_range.specs.Sides.{end_of, number_at}
use Rattle.qh_range.proofs.ProductLemmas.{IsAdded}
use Rattle.qh_range.proofs.path.add_products.Given as goal

abbrev pub invariant-loop-i : goal.invariant-loop-i
invariant-loop-i l = IsAdded
    (λ b. product (number_at Parts.One l.job (end_of l.one).numbers b) (number_at Parts.Two l.job (end_of l.two).numbers b))
    (λ b. are_narrow (number_at Parts.One l.job (end_of l.one).numbers b) (number_at Parts.Two l.job (end_of l.two).numbers b))
    l.job.bits l.initial.sums l.i l.sums
