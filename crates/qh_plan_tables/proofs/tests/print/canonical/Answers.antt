use Rattle.qh_print.proofs.ValueLemmas.{canon_showable}
use Rattle.qh_plan_tables.proofs.tests.print.canonical.Goals as goal

pub returns : goal.returns
returns c = canon_showable c.args.z.now c.args.k c.reduce.result (c.within.ensures.0 c.if-not-within.false) c.if-k-gt-MAX_GATES.false c.reduce.ensures
