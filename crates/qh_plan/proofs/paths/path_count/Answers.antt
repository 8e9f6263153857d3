use Rattle.std.proofs.Common.{arith}
use Rattle.qh_plan.proofs.DigitLemmas.{count_fits}
use Rattle.qh_plan.proofs.paths.path_count.Goals as goal

pub overflow_mul-count : goal.overflow_mul-count
overflow_mul-count c =
    let l = count_fits c.args.radices.now c.loop-radix.radix-index c.loop-radix.count 0 c.requires.known c.loop-radix-test.true c.loop-radix.invariant in
    rw c.from-count.ensures (omega (arith, l))
