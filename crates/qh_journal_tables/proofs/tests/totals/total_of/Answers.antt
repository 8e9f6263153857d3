use Rattle.std.proofs.Common.{rules, arith, ◌≢◌, ◌-◌, ◌<◌, set, Some}
use Rattle.qh_plan.specs.Jobs.{ranges}
use Rattle.qh_plan.specs.Ranges.{Fits}
use Rattle.qh_slots.specs.Stands.{nones}
use Rattle.qh_slots.proofs.RunningLemmas.{next_of_nones, next_more, no_verdict}
use Rattle.qh_journal_tables.proofs.tests.totals.total_of.Goals as goal

pub add-requires : goal.add-requires
add-requires g c =
    let j = c.args.job.now in
    let fits : Fits j c.args.range c.args.first.now = search rules in
    record { slots = nones j; total = c.in_ok-total.ensures; next = next_of_nones j c.args.range c.args.first.now (omega arith) fits }

pub add-requires-2 : goal.add-requires-2
add-requires-2 g c =
    let j = c.args.job.now in
    let fits : Fits j c.args.range c.args.first.now = search rules in
    let fits_2 : Fits j (1 - c.args.range) c.args.second.now = search rules in
    let next = next_of_nones j c.args.range c.args.first.now (omega arith) fits in
    let other : 1 - c.args.range ≢ c.args.range = omega arith in
    record {
      slots = set (nones j) c.args.range (Some c.args.first.now);
      total = c.add.ensures (nones j) c.in_ok-total.ensures next;
      next =
          next_more j (nones j) c.args.range (1 - c.args.range) c.args.first.now c.args.second.now next other (omega arith)
          (no_verdict (ranges j) (1 - c.args.range)) fits_2;
    }
