use Rattle.std.proofs.Common.{arith}
use Rattle.qh_kernel.proofs.RowLemmas.{row_sum_one, row_sum_none, unit_below}
use Rattle.qh_uncut.proofs.entries.only_entry.Goals as goal

pub returns-in-Unit : goal.returns-in-Unit
returns-in-Unit c = record {
  column = (c.loop-column-test.true, unit_below c.args.row.now c.loop-column.column c.in-Unit.power c.loop-column-test.true c.requires.units c.in-Unit.is);
  value = λ f. row_sum_one c.args.row.now f c.loop-column.column c.in-Unit.power c.loop-column-test.true c.requires.single c.in-Unit.is;
}

pub returns : goal.returns
returns c = record {
  column = tt;
  value = λ f. row_sum_none c.args.row.now f (λ k l. c.loop-column.invariant k (omega arith));
}
