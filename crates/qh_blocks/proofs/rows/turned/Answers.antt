use Rattle.std.proofs.Common.{arith, ap}
use Rattle.std.proofs.lemmas.Int.{ints}
use Rattle.qh_ring.specs.declared.number.Omega.{Omega}
use Rattle.qh_ring.proofs.NumberLemmas.{same_number, at_power}
use Rattle.qh_blocks.specs.Blocks.{lane}
use Rattle.qh_blocks.proofs.rows.turned.Goals as goal

pub returns-in-0-clause-lanes : goal.returns-in-0-clause-lanes
returns-in-0-clause-lanes g c r l =
    let na = ap (λ (z : Omega). z.a) (c.negated-n.ensures.lanes r l) in
    let nb = ap (λ (z : Omega). z.b) (c.negated-n.ensures.lanes r l) in
    let nc = ap (λ (z : Omega). z.c) (c.negated-n.ensures.lanes r l) in
    let nd = ap (λ (z : Omega). z.d) (c.negated-n.ensures.lanes r l) in
    at_power c.args.j 0 (lane g.V.Vector.lanes r c.args.x.now) _ c.in-0.is (same_number _ _ (omega (arith, ints)) (omega (arith, ints)) (omega (arith, ints)) (omega (arith, ints)))

pub returns-in-1-clause-lanes : goal.returns-in-1-clause-lanes
returns-in-1-clause-lanes g c r l =
    let na = ap (λ (z : Omega). z.a) (c.negated-n.ensures.lanes r l) in
    let nb = ap (λ (z : Omega). z.b) (c.negated-n.ensures.lanes r l) in
    let nc = ap (λ (z : Omega). z.c) (c.negated-n.ensures.lanes r l) in
    let nd = ap (λ (z : Omega). z.d) (c.negated-n.ensures.lanes r l) in
    at_power c.args.j 1 (lane g.V.Vector.lanes r c.args.x.now) _ c.in-1.is (same_number _ _ (omega (arith, ints)) (omega (arith, ints)) (omega (arith, ints)) (omega (arith, ints)))

pub returns-in-2-clause-lanes : goal.returns-in-2-clause-lanes
returns-in-2-clause-lanes g c r l =
    let na = ap (λ (z : Omega). z.a) (c.negated-n.ensures.lanes r l) in
    let nb = ap (λ (z : Omega). z.b) (c.negated-n.ensures.lanes r l) in
    let nc = ap (λ (z : Omega). z.c) (c.negated-n.ensures.lanes r l) in
    let nd = ap (λ (z : Omega). z.d) (c.negated-n.ensures.lanes r l) in
    at_power c.args.j 2 (lane g.V.Vector.lanes r c.args.x.now) _ c.in-2.is (same_number _ _ (omega (arith, ints)) (omega (arith, ints)) (omega (arith, ints)) (omega (arith, ints)))

pub returns-in-3-clause-lanes : goal.returns-in-3-clause-lanes
returns-in-3-clause-lanes g c r l =
    let na = ap (λ (z : Omega). z.a) (c.negated-n.ensures.lanes r l) in
    let nb = ap (λ (z : Omega). z.b) (c.negated-n.ensures.lanes r l) in
    let nc = ap (λ (z : Omega). z.c) (c.negated-n.ensures.lanes r l) in
    let nd = ap (λ (z : Omega). z.d) (c.negated-n.ensures.lanes r l) in
    at_power c.args.j 3 (lane g.V.Vector.lanes r c.args.x.now) _ c.in-3.is (same_number _ _ (omega (arith, ints)) (omega (arith, ints)) (omega (arith, ints)) (omega (arith, ints)))

pub returns-in-4-clause-lanes : goal.returns-in-4-clause-lanes
returns-in-4-clause-lanes g c r l =
    let na = ap (λ (z : Omega). z.a) (c.negated-n.ensures.lanes r l) in
    let nb = ap (λ (z : Omega). z.b) (c.negated-n.ensures.lanes r l) in
    let nc = ap (λ (z : Omega). z.c) (c.negated-n.ensures.lanes r l) in
    let nd = ap (λ (z : Omega). z.d) (c.negated-n.ensures.lanes r l) in
    at_power c.args.j 4 (lane g.V.Vector.lanes r c.args.x.now) _ c.in-4.is (same_number _ _ (omega (arith, ints)) (omega (arith, ints)) (omega (arith, ints)) (omega (arith, ints)))

pub returns-in-5-clause-lanes : goal.returns-in-5-clause-lanes
returns-in-5-clause-lanes g c r l =
    let na = ap (λ (z : Omega). z.a) (c.negated-n.ensures.lanes r l) in
    let nb = ap (λ (z : Omega). z.b) (c.negated-n.ensures.lanes r l) in
    let nc = ap (λ (z : Omega). z.c) (c.negated-n.ensures.lanes r l) in
    let nd = ap (λ (z : Omega). z.d) (c.negated-n.ensures.lanes r l) in
    at_power c.args.j 5 (lane g.V.Vector.lanes r c.args.x.now) _ c.in-5.is (same_number _ _ (omega (arith, ints)) (omega (arith, ints)) (omega (arith, ints)) (omega (arith, ints)))

pub returns-in-6-clause-lanes : goal.returns-in-6-clause-lanes
returns-in-6-clause-lanes g c r l =
    let na = ap (λ (z : Omega). z.a) (c.negated-n.ensures.lanes r l) in
    let nb = ap (λ (z : Omega). z.b) (c.negated-n.ensures.lanes r l) in
    let nc = ap (λ (z : Omega). z.c) (c.negated-n.ensures.lanes r l) in
    let nd = ap (λ (z : Omega). z.d) (c.negated-n.ensures.lanes r l) in
    at_power c.args.j 6 (lane g.V.Vector.lanes r c.args.x.now) _ c.in-6.is (same_number _ _ (omega (arith, ints)) (omega (arith, ints)) (omega (arith, ints)) (omega (arith, ints)))

pub returns-in_default-clause-lanes : goal.returns-in_default-clause-lanes
returns-in_default-clause-lanes g c r l =
    let na = ap (λ (z : Omega). z.a) (c.negated-n.ensures.lanes r l) in
    let nb = ap (λ (z : Omega). z.b) (c.negated-n.ensures.lanes r l) in
    let nc = ap (λ (z : Omega). z.c) (c.negated-n.ensures.lanes r l) in
    let nd = ap (λ (z : Omega). z.d) (c.negated-n.ensures.lanes r l) in
    at_power c.args.j 7 (lane g.V.Vector.lanes r c.args.x.now) _ (let unit = c.requires.unit in omega arith) (same_number _ _ (omega (arith, ints)) (omega (arith, ints)) (omega (arith, ints)) (omega (arith, ints)))
