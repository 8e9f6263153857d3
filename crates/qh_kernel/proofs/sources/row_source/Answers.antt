use Rattle.std.proofs.Common.{arith, ◌∙◌, ap}
use Rattle.qh_ring.specs.Numbers.{product, unit_power}
use Rattle.qh_ring.proofs.NumberLemmas.{one_times}
use Rattle.qh_kernel.proofs.RowLemmas.{row_sum_one, row_sum_none, unit_below}
use Rattle.qh_kernel.proofs.sources.row_source.Goals as goal

pub returns-then-power-eq0 : goal.returns-then-power-eq0
returns-then-power-eq0 c = record {
  place = tt;
  value = λ f.
      row_sum_one c.args.row.now f c.loop-column.column c.in-Unit.power c.loop-column-test.true c.requires.single c.in-Unit.is
      ∙ ap (λ j. product (unit_power j) (f c.loop-column.column)) c.if-power-eq0.true
      ∙ one_times (f c.loop-column.column)
      ∙ ap f c.if-column-r.true;
}

pub returns-in-Unit : goal.returns-in-Unit
returns-in-Unit c = record {
  place = (c.loop-column-test.true, unit_below c.args.row.now c.loop-column.column c.in-Unit.power c.loop-column-test.true c.requires.units c.in-Unit.is);
  value = λ f. row_sum_one c.args.row.now f c.loop-column.column c.in-Unit.power c.loop-column-test.true c.requires.single c.in-Unit.is;
}

pub returns : goal.returns
returns c = record {
  place = tt;
  value = λ f. row_sum_none c.args.row.now f (λ k l. c.loop-column.invariant k (omega arith));
}
