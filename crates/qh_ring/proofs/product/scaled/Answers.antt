use Rattle.std.proofs.Common.{arith, rules, FitsSigned}
use Rattle.std.specs.Int.{w128}
use Rattle.std.proofs.lemmas.Int.{ints, to_z-of_z}
use Rattle.qh_ring.proofs.NumberLemmas.{same_number}
use Rattle.qh_ring.proofs.product.scaled.Goals as goal

pub returns : goal.returns
returns c =
    let x : FitsSigned w128 c.args.x = search rules in
    let a : FitsSigned w128 c.args.y.now.a = search rules in
    let b : FitsSigned w128 c.args.y.now.b = search rules in
    let cc : FitsSigned w128 c.args.y.now.c = search rules in
    let d : FitsSigned w128 c.args.y.now.d = search rules in
    let ea = simp to_z-of_z at c.in_ok-a.ensures in
    let eb = simp to_z-of_z at c.in_ok-b.ensures in
    let ec = simp to_z-of_z at c.in_ok-c.ensures in
    let ed = simp to_z-of_z at c.in_ok-d.ensures in
    (record { a = ea.0; b = eb.0; c = ec.0; d = ed.0 }, same_number _ _ (omega (arith, ints)) (omega (arith, ints)) (omega (arith, ints)) (omega (arith, ints)))
