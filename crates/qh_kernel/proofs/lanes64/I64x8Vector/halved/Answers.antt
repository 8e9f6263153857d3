use Rattle.std.specs.Int.{w64}
use Rattle.qh_kernel.proofs.HalfLemmas.{halves_lane, halves_below}
use Rattle.qh_kernel.proofs.lanes64.I64x8Vector.halved.Goals as goal

pub returns-clause-lanes : goal.returns-clause-lanes
returns-clause-lanes c = halves_lane w64 8 c.args._bits c.args.self c.requires.room c.requires.below c.requires.even

pub returns-clause-below : goal.returns-clause-below
returns-clause-below c = halves_below w64 8 c.args._bits c.args.self c.requires.room c.requires.below c.requires.even
