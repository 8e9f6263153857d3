use Rattle.std.proofs.Common.{rules, ◌≡◌, ◌<◌, length, replicate, sym, ap, subst, ◌∙◌, ℕ, List, All}
use Rattle.std.specs.Arc.{arc_value}
use Rattle.qh_ring.specs.Numbers.{nothing, IsWithin}
use Rattle.qh_plan.specs.declared.verdict.Verdict.TheVariants.{Sum}
use Rattle.qh_plan.specs.Jobs.{Job, IsJob, prefixes, ranges}
use Rattle.qh_plan.specs.Ranges.{prefix_of}
use Rattle.qh_range.proofs.RootLemmas.{some_range, prefix_within}
use Rattle.qh_range.proofs.ValueLemmas.{written_whole}
use Rattle.qh_range.proofs.TotalLemmas.{total_start}
use Rattle.qh_range.proofs.total.run_total.Goals as goal

pub prefix_of-requires : goal.prefix_of-requires
prefix_of-requires g c =
    let j = arc_value c.args.job.now in
    let valid : IsJob j = subst IsJob c.deref.ensures c.bits.ensures.valid in
    subst (λ (k : Job). 0 < ranges k) (sym c.deref-2.ensures) (some_range j valid)

pub make_checkpoint-requires : goal.make_checkpoint-requires
make_checkpoint-requires g c =
    let j = arc_value c.args.job.now in
    let valid : IsJob j = subst IsJob c.deref.ensures c.bits.ensures.valid in
    let e : c.prefix_of.result ≡ prefix_of j 0 = c.prefix_of.ensures.value ∙ ap (λ (k : Job). prefix_of k 0) c.deref-2.ensures in
    subst (λ n. n < prefixes j) (sym e) (prefix_within j valid 0 (some_range j valid))

pub add_ranges-requires-clause-total : goal.add_ranges-requires-clause-total
add_ranges-requires-clause-total g c =
    let j = arc_value c.args.job.now in
    let bits : c.bits.result.now ≡ j.bits = c.bits.ensures.value ∙ ap (λ (j : Job). j.bits) c.deref.ensures in
    total_start j c.in_ok-sums.sums.items (c.in_ok-sums.ensures.items_if_clones_equal (λ y h. h) ∙ ap (λ (b : List ℕ). replicate (length b) nothing) bits)
    ∙ ap Sum (sym c.deref_mut.ensures.value)

pub returns-in-None : goal.returns-in-None
returns-in-None g c =
    let back = written_whole c.in_ok-sums.sums.len c.add_ranges.new.sums c.in_ok-sums.sums.items (search rules) (search rules) in (
      c.in_ok-path.ensures.whole c.in-None.is ∙ ap Sum (sym back),
      subst (All (IsWithin 126)) (sym back) (c.in_ok-path.ensures.within c.in-None.is),
    )
