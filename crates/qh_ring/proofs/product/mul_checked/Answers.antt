use Rattle.std.proofs.Common.{rules, FitsSigned, ◌∙◌}
use Rattle.std.specs.Int.{w128}
use Rattle.std.proofs.lemmas.Int.{to_z-of_z}
use Rattle.qh_ring.proofs.NumberLemmas.{combined_is, combined_same}
use Rattle.qh_ring.proofs.product.mul_checked.Goals as goal

pub returns : goal.returns
returns c =
    let fa : FitsSigned w128 c.args.x.now.a = search rules in
    let fb : FitsSigned w128 c.args.x.now.b = search rules in
    let fc : FitsSigned w128 c.args.x.now.c = search rules in
    let fd : FitsSigned w128 c.args.x.now.d = search rules in
    let p = simp to_z-of_z at c.in-Some.ensures in
    let q = simp to_z-of_z at c.in-Some-scaled.ensures in
    let r = simp to_z-of_z at c.in-Some-scaled-2.ensures in
    let s = simp to_z-of_z at c.in-Some-scaled-3.ensures in (
      record { a = p.0; b = q.0; c = r.0; d = s.0 },
      c.combine.ensures ∙ combined_same p.1 q.1 r.1 s.1 ∙ combined_is c.args.x.now c.args.y.now,
    )

pub returns-in_default-scaled : goal.returns-in_default-scaled
returns-in_default-scaled c h =
    let f : FitsSigned w128 c.args.x.now.b = search rules in
    (simp to_z-of_z at c.in_default-scaled.ensures) h.b

pub returns-in_default-scaled-2 : goal.returns-in_default-scaled-2
returns-in_default-scaled-2 c h =
    let f : FitsSigned w128 c.args.x.now.c = search rules in
    (simp to_z-of_z at c.in_default-scaled-2.ensures) h.c

pub returns-in_default-scaled-3 : goal.returns-in_default-scaled-3
returns-in_default-scaled-3 c h =
    let f : FitsSigned w128 c.args.x.now.d = search rules in
    (simp to_z-of_z at c.in_default-scaled-3.ensures) h.d
