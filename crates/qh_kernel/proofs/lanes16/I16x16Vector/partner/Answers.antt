use Rattle.std.proofs.Common.{arith, refl}
use Rattle.std.specs.Int.{w16}
use Rattle.qh_ring.specs.States.{with_bit}
use Rattle.qh_kernel.proofs.BoundLemmas.{partners_below}
use Rattle.qh_kernel.proofs.PickLemmas.{partner_lanes}
use Rattle.qh_kernel.proofs.lanes16.I16x16Vector.partner.Goals as goal

pub returns-then-place-eq0-clause-lanes : goal.returns-then-place-eq0-clause-lanes
unfolding with_bit
returns-then-place-eq0-clause-lanes c = partner_lanes w16 4 0 c.args._bits c.args.place c.args.self c.if-place-eq0.true (omega arith) c.requires.room c.requires.below

pub returns-then-place-eq0-clause-below : goal.returns-then-place-eq0-clause-below
returns-then-place-eq0-clause-below c = partners_below 4 c.args.place c.args._bits c.args.self _ c.requires.place refl c.requires.below (returns-then-place-eq0-clause-lanes c)

pub returns-then-place-eq1-clause-lanes : goal.returns-then-place-eq1-clause-lanes
unfolding with_bit
returns-then-place-eq1-clause-lanes c = partner_lanes w16 4 1 c.args._bits c.args.place c.args.self c.if-place-eq1.true (omega arith) c.requires.room c.requires.below

pub returns-then-place-eq1-clause-below : goal.returns-then-place-eq1-clause-below
returns-then-place-eq1-clause-below c = partners_below 4 c.args.place c.args._bits c.args.self _ c.requires.place refl c.requires.below (returns-then-place-eq1-clause-lanes c)

pub returns-then-place-eq2-clause-lanes : goal.returns-then-place-eq2-clause-lanes
unfolding with_bit
returns-then-place-eq2-clause-lanes c = partner_lanes w16 4 2 c.args._bits c.args.place c.args.self c.if-place-eq2.true (omega arith) c.requires.room c.requires.below

pub returns-then-place-eq2-clause-below : goal.returns-then-place-eq2-clause-below
returns-then-place-eq2-clause-below c = partners_below 4 c.args.place c.args._bits c.args.self _ c.requires.place refl c.requires.below (returns-then-place-eq2-clause-lanes c)

pub returns-clause-lanes : goal.returns-clause-lanes
unfolding with_bit
returns-clause-lanes c = partner_lanes w16 4 3 c.args._bits c.args.place c.args.self (let few = c.requires.place in omega arith) (omega arith) c.requires.room c.requires.below

pub returns-clause-below : goal.returns-clause-below
returns-clause-below c = partners_below 4 c.args.place c.args._bits c.args.self _ c.requires.place refl c.requires.below (returns-clause-lanes c)
