use Rattle.std.proofs.Common.{arith, ◌+◌, subst, sym, ℤ, List}
use Rattle.std.specs.Int.{w16}
use Rattle.qh_kernel.proofs.WordLemmas.{back}
use Rattle.qh_kernel.proofs.MostLemmas.{IsMost, most_none, most_next}
use Rattle.qh_kernel.proofs.lanes16.I16x16Vector.most.Goals as goal

pub loop-r-init : goal.loop-r-init
loop-r-init c = most_none 16 _

pub loop-r-preserved : goal.loop-r-preserved
loop-r-preserved c =
    let same = back w16 16 c.args.self c.requires in
    subst (λ (u : List ℤ). IsMost 16 u (c.loop-r.r + 1) c.max-most.result) (sym same)
    (most_next w16 16 c.args.self c.loop-r.r c.loop-r.most c.unsigned_abs.result c.max-most.result c.loop-r-test.true c.requires c.unsigned_abs.ensures.value c.max-most.ensures
    (subst (λ (u : List ℤ). IsMost 16 u c.loop-r.r c.loop-r.most) same c.loop-r.invariant))

pub returns-clause-most : goal.returns-clause-most
returns-clause-most c r l =
    let same = back w16 16 c.args.self c.requires in
    let e = subst (λ (u : List ℤ). IsMost 16 u c.loop-r.r c.loop-r.most) same c.loop-r.invariant in
    e.above r (omega arith)

pub returns-clause-least : goal.returns-clause-least
returns-clause-least c b h =
    let same = back w16 16 c.args.self c.requires in
    let e = subst (λ (u : List ℤ). IsMost 16 u c.loop-r.r c.loop-r.most) same c.loop-r.invariant in
    e.least b h
