use Rattle.std.proofs.Common.{arith}
use Rattle.std.specs.Int.{w16}
use Rattle.qh_kernel.proofs.WordLemmas.{put, narrowed}
use Rattle.qh_kernel.proofs.lanes16.I16x16Vector.with.Goals as goal

pub returns : goal.returns
returns c = put w16 16 c.args.self c.args.lane c.args.number _ c.requires.lane c.requires.below c.requires.number (narrowed w16 c.args.number (omega arith) c.requires.number)
