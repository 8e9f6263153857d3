use Rattle.std.specs.Int.{w32}
use Rattle.qh_kernel.proofs.BoundLemmas.{sums_below}
use Rattle.qh_kernel.proofs.WordLemmas.{adds, sums_length, sums_lane}
use Rattle.qh_kernel.proofs.lanes32.I32x8Vector.plus.Goals as goal

pub overflow_add-result : goal.overflow_add-result
overflow_add-result c = adds w32 8 c.args._bits c.args.self c.args.other c.requires.room c.requires.below c.requires.other

pub returns-clause-lanes : goal.returns-clause-lanes
returns-clause-lanes c = sums_lane w32 8 c.args._bits c.args.self c.args.other c.requires.room c.requires.below c.requires.other

pub returns-clause-below : goal.returns-clause-below
returns-clause-below c = sums_below 8 c.args._bits c.args.self c.args.other _ (sums_length w32 8 c.args.self c.args.other c.requires.below.len c.requires.other.len) c.requires.below c.requires.other (returns-clause-lanes c)
