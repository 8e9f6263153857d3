use Rattle.std.proofs.Common.{arith}
use Rattle.std.specs.Int.{w32}
use Rattle.qh_kernel.proofs.WordLemmas.{got}
use Rattle.qh_kernel.proofs.lanes32.I32x8Vector.get.Goals as goal

pub returns : goal.returns
returns c = got w32 8 c.args.self c.args.lane (omega arith) c.requires.lane c.requires.below
