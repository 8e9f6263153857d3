use Rattle.std.proofs.Common.{arith}
use Rattle.qh_plan.proofs.DigitLemmas.{front_le}
use Rattle.qh_plan.proofs.paths.split_fault.Goals as goal

pub path_count-prefixes-requires-clause-few : goal.path_count-prefixes-requires-clause-few
path_count-prefixes-requires-clause-few c = omega (arith, front_le c.args.p c.args.radices.now c.requires.known)
