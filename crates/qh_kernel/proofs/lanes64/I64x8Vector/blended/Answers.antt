use Rattle.std.proofs.Common.{arith, refl}
use Rattle.std.specs.Int.{w64}
use Rattle.qh_kernel.proofs.BoundLemmas.{blends_below}
use Rattle.qh_kernel.proofs.PickLemmas.{blend_lanes}
use Rattle.qh_kernel.proofs.lanes64.I64x8Vector.blended.Goals as goal

pub returns-then-place-eq0-clause-lanes : goal.returns-then-place-eq0-clause-lanes
returns-then-place-eq0-clause-lanes c = blend_lanes w64 8 0 c.args._bits c.args.place c.args.self c.args.high c.if-place-eq0.true c.requires.room c.requires.below c.requires.high

pub returns-then-place-eq0-clause-below : goal.returns-then-place-eq0-clause-below
returns-then-place-eq0-clause-below c = blends_below 8 c.args.place c.args._bits c.args.self c.args.high _ refl c.requires.below c.requires.high (returns-then-place-eq0-clause-lanes c)

pub returns-then-place-eq1-clause-lanes : goal.returns-then-place-eq1-clause-lanes
returns-then-place-eq1-clause-lanes c = blend_lanes w64 8 1 c.args._bits c.args.place c.args.self c.args.high c.if-place-eq1.true c.requires.room c.requires.below c.requires.high

pub returns-then-place-eq1-clause-below : goal.returns-then-place-eq1-clause-below
returns-then-place-eq1-clause-below c = blends_below 8 c.args.place c.args._bits c.args.self c.args.high _ refl c.requires.below c.requires.high (returns-then-place-eq1-clause-lanes c)

pub returns-clause-lanes : goal.returns-clause-lanes
returns-clause-lanes c = blend_lanes w64 8 2 c.args._bits c.args.place c.args.self c.args.high (let few = c.requires.place in omega arith) c.requires.room c.requires.below c.requires.high

pub returns-clause-below : goal.returns-clause-below
returns-clause-below c = blends_below 8 c.args.place c.args._bits c.args.self c.args.high _ refl c.requires.below c.requires.high (returns-clause-lanes c)
