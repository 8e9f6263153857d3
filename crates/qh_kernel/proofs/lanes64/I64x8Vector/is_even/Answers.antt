use Rattle.std.proofs.Common.{arith}
use Rattle.std.specs.Int.{w64}
use Rattle.qh_kernel.proofs.EvenLemmas.{all_set, all_even}
use Rattle.qh_kernel.proofs.lanes64.I64x8Vector.is_even.Goals as goal

pub returns : goal.returns
returns c = (all_even w64 8 255 c.args.self (omega arith) (omega arith) c.requires, all_set w64 8 255 c.args.self (omega arith) (omega arith) c.requires)
