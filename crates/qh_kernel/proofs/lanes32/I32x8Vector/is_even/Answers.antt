use Rattle.std.proofs.Common.{arith}
use Rattle.std.specs.Int.{w32}
use Rattle.qh_kernel.proofs.EvenLemmas.{all_set, all_even}
use Rattle.qh_kernel.proofs.lanes32.I32x8Vector.is_even.Goals as goal

pub returns : goal.returns
returns c = (all_even w32 8 255 c.args.self (omega arith) (omega arith) c.requires, all_set w32 8 255 c.args.self (omega arith) (omega arith) c.requires)
