use Rattle.std.proofs.Common.{arith}
use Rattle.std.specs.Int.{w16}
use Rattle.qh_kernel.proofs.EvenLemmas.{all_set, all_even}
use Rattle.qh_kernel.proofs.lanes16.I16x16Vector.is_even.Goals as goal

pub returns : goal.returns
returns c = (all_even w16 16 65535 c.args.self (omega arith) (omega arith) c.requires, all_set w16 16 65535 c.args.self (omega arith) (omega arith) c.requires)
