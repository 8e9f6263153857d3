use Rattle.std.proofs.Common.{rules, arith, ◌≡◌, ◌+◌, ◌<◌, ◌≤◌, ◌^◌, map, List, refl, sym, ap, subst, ◌∙◌, true}
use Rattle.std.specs.List.{All}
use Rattle.qh_ring.specs.declared.number.Omega.{Omega}
use Rattle.qh_ring.specs.Numbers.{IsWithin}
use Rattle.qh_plan.specs.declared.verdict.Verdict.TheVariants.{Sum}
use Rattle.qh_plan.specs.Verdicts.{added}
use Rattle.qh_plan.specs.Halves.{contribution}
use Rattle.qh_half.specs.Halves.{Half}
use Rattle.qh_prefix.specs.declared.part.Part.TheVariants as Parts
use Rattle.qh_prefix.specs.declared.stage.Stage.TheVariants.{Suffix}
use Rattle.qh_prefix.specs.Stages.{stage_steps}
use Rattle.qh_range.specs.Sides.{IsAtRoot}
use Rattle.qh_range.proofs.ValueLemmas.{IsSummed, summed_none, summed_more, summed_within, written_whole, range_over, range_sum, steps_more}
use Rattle.qh_range.proofs.evaluation.sum_range.Goals as goal

pub loop-k-init : goal.loop-k-init
loop-k-init g c = record {
  one = c.requires.one;
  two = c.requires.two;
  one_root = refl;
  two_root = refl;
  summed = summed_none c.args.job.now c.first_path-first.result c.args.zeros.items c.requires.zeros;
  steps = omega arith;
}

pub overflow_add-first : goal.overflow_add-first
overflow_add-first g c =
    let w = c.first_path-first.ensures.within in
    let few = c.requires.valid.few_paths in
    let e = c.per_range-k-end.ensures in
    let l = c.loop-k-test.true in
    let goes : c.first_path-first.result + c.loop-k.k < 2 ^ 32 = omega arith in
    search (rules, goes)

pub overflow_add-result : goal.overflow_add-result
overflow_add-result g c =
    let w = c.first_path-first.ensures.within in
    let few = c.requires.valid.few_paths in
    let e = c.per_range-k-end.ensures in
    let l = c.loop-k-test.true in
    let goes : c.first_path-first.result + c.loop-k.k < 2 ^ 32 = omega arith in
    search (rules, goes)

pub add_path-requires-clause-below : goal.add_path-requires-clause-below
add_path-requires-clause-below g c =
    let e = c.first_path-first.ensures.value in
    let f = c.per_range-k-end.ensures in
    let t = c.loop-k-test.true in
    record { from = omega arith; below = omega arith }

pub add_path-requires-clause-one_root : goal.add_path-requires-clause-one_root
add_path-requires-clause-one_root g c =
    subst (λ (h : Half). IsAtRoot Parts.One c.args.job.now c.args.range h.numbers) (sym c.loop-k.invariant.one_root) c.requires.one_root

pub add_path-requires-clause-two_root : goal.add_path-requires-clause-two_root
add_path-requires-clause-two_root g c =
    subst (λ (h : Half). IsAtRoot Parts.Two c.args.job.now c.args.range h.numbers) (sym c.loop-k.invariant.two_root) c.requires.two_root

pub add_path-requires-clause-bounded : goal.add_path-requires-clause-bounded
add_path-requires-clause-bounded g c =
    let w = c.first_path-first.ensures.within in
    let few = c.requires.valid.few_paths in
    let e = c.per_range-k-end.ensures in
    let t = c.loop-k-test.true in
    let l : c.loop-k.k ≤ 2 ^ 32 = omega arith in
    subst (λ (v : List Omega). All (IsWithin 126) v) (sym c.deref_mut.ensures.value)
    (summed_within c.args.job.now c.first_path-first.result c.loop-k.k c.loop-k.sums.items l c.loop-k.invariant.summed)

pub returns-then-not-add_path-clause-value : goal.returns-then-not-add_path-clause-value
returns-then-not-add_path-clause-value g c =
    range_over c.args.job.now c.args.range c.first_path-first.result c.loop-k.k c.per_range-k-end.result c.loop-k.sums.items
    c.first_path-first.ensures.value c.per_range-k-end.ensures c.loop-k-test.true c.loop-k.invariant.summed (sym c.add_path.ensures.fits ∙ c.if-not-add_path.true)

pub loop-k-preserved : goal.loop-k-preserved
loop-k-preserved g c =
    let t : c.add_path.result ≡ true = c.if-not-add_path.false in
    let e : c.add_path.new.sums ≡ added c.loop-k.sums.items (map (contribution c.args.job.now (c.first_path-first.result + c.loop-k.k)) c.args.job.now.bits) =
    c.add_path.ensures.sums t ∙ ap (λ v. added v (map (contribution c.args.job.now (c.first_path-first.result + c.loop-k.k)) c.args.job.now.bits)) c.deref_mut.ensures.value in
    record {
      one = c.add_path.ensures.one;
      two = c.add_path.ensures.two;
      one_root = c.add_path.ensures.one_root ∙ c.loop-k.invariant.one_root;
      two_root = c.add_path.ensures.two_root ∙ c.loop-k.invariant.two_root;
      summed = subst (IsSummed c.args.job.now c.first_path-first.result (c.loop-k.k + 1))
          (sym (written_whole c.loop-k.sums.len c.add_path.new.sums c.loop-k.sums.items (search rules) (search rules)))
          (summed_more c.args.job.now c.first_path-first.result c.loop-k.k c.loop-k.sums.items c.add_path.new.sums c.loop-k.invariant.summed (sym c.add_path.ensures.fits ∙ t) e);
      steps = steps_more c.loop-k.k (stage_steps Suffix c.args.job.now) c.args.steps.now c.loop-k.steps c.add_path.new.steps c.loop-k.invariant.steps c.add_path.ensures.steps;
    }

pub of-requires : goal.of-requires
of-requires g c =
    let w = c.first_path-first.ensures.within in
    let few = c.requires.valid.few_paths in
    let e = c.per_range-k-end.ensures in
    let t = c.loop-k.auto.k-end in
    let l : c.loop-k.k ≤ 2 ^ 32 = omega arith in
    summed_within c.args.job.now c.first_path-first.result c.loop-k.k c.loop-k.sums.items l c.loop-k.invariant.summed

pub returns-clause-value : goal.returns-clause-value
returns-clause-value g c =
    let t = c.loop-k.auto.k-end in
    let f = c.loop-k-test.false in
    let e : c.loop-k.k ≡ c.per_range-k-end.result = omega arith in
    ap Sum c.of.ensures ∙ range_sum c.args.job.now c.args.range c.first_path-first.result c.loop-k.k c.per_range-k-end.result c.loop-k.sums.items
    c.first_path-first.ensures.value c.per_range-k-end.ensures e c.loop-k.invariant.summed
