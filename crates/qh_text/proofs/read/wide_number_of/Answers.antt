use Rattle.std.proofs.Common.{rules, ◌<◌, None, Some, length}
use Rattle.qh_text.proofs.Digits.{one_more, stops_here, whole, computed}
use Rattle.qh_text.proofs.read.wide_number_of.Goals as goal

pub returns-in_default-clause-spelled : goal.returns-in_default-clause-spelled
returns-in_default-clause-spelled c = stops_here _ _ _ _ c.loop-byte.invariant c.loop-byte-test.true c.in_default.ensures

pub returns-in_default-clause-computed : goal.returns-in_default-clause-computed
returns-in_default-clause-computed c = computed _ _ None (returns-in_default-clause-spelled c)

pub loop-byte-preserved : goal.loop-byte-preserved
loop-byte-preserved c = let step = c.in-Some.ensures in one_more _ _ _ _ _ c.loop-byte.invariant c.loop-byte-test.true step.0 step.1

pub returns-clause-spelled : goal.returns-clause-spelled
returns-clause-spelled c = let some : 0 < length c.args.bytes.now = search rules in whole _ _ _ _ c.loop-byte.invariant c.loop-byte-test.false some

pub returns-clause-computed : goal.returns-clause-computed
returns-clause-computed c = computed _ _ (Some c.loop-byte.number) (returns-clause-spelled c)
