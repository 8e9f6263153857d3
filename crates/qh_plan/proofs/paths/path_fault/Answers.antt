use Rattle.std.proofs.Common.{arith, subst, ◌<◌, ◌≤◌}
use Rattle.std.proofs.lemmas.Bool.Decides.{nat_tests}
use Rattle.qh_plan.proofs.DigitLemmas.{many_paths, few_paths}
use Rattle.qh_plan.proofs.paths.path_fault.Goals as goal

pub returns-then-log2-gt-MAX_PATH_BITS : goal.returns-then-log2-gt-MAX_PATH_BITS
returns-then-log2-gt-MAX_PATH_BITS c =
    let l = many_paths c.args.radices.now c.requires.known (subst (λ k. 32 < k) c.path_bits-log2.ensures c.if-log2-gt-MAX_PATH_BITS.true) in
    grind (arith, nat_tests)

pub returns : goal.returns
returns c =
    let l = few_paths c.args.radices.now c.requires.known (subst (λ k. k ≤ 32) c.path_bits-log2.ensures c.if-log2-gt-MAX_PATH_BITS.false) in
    grind (arith, nat_tests)
