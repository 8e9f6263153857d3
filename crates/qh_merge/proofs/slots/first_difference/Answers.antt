use Rattle.std.proofs.Common.{None, arith}
use Rattle.std.proofs.lemmas.List.{ext_get_or}
use Rattle.qh_merge.proofs.slots.first_difference.Goals as goal

pub returns-clause-equal : goal.returns-clause-equal
returns-clause-equal c = ext_get_or None c.args.one.now c.args.two.now c.requires (λ k low. c.loop-r.invariant k (omega (arith, c.loop-r-test.false)))
