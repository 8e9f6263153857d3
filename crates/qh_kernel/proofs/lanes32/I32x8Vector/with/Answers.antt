use Rattle.std.proofs.Common.{arith}
use Rattle.std.specs.Int.{w32}
use Rattle.qh_kernel.proofs.WordLemmas.{put, narrowed}
use Rattle.qh_kernel.proofs.lanes32.I32x8Vector.with.Goals as goal

pub returns : goal.returns
returns c = put w32 8 c.args.self c.args.lane c.args.number _ c.requires.lane c.requires.below c.requires.number (narrowed w32 c.args.number (omega arith) c.requires.number)
