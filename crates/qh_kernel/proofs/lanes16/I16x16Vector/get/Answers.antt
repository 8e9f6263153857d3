use Rattle.std.proofs.Common.{arith}
use Rattle.std.specs.Int.{w16}
use Rattle.qh_kernel.proofs.WordLemmas.{got}
use Rattle.qh_kernel.proofs.lanes16.I16x16Vector.get.Goals as goal

pub returns : goal.returns
returns c = got w16 16 c.args.self c.args.lane (omega arith) c.requires.lane c.requires.below
