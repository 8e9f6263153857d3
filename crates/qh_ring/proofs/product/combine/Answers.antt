use Rattle.std.proofs.Common.{◌∙◌}
use Rattle.std.specs.Int.{w128}
use Rattle.std.proofs.lemmas.Int.{to_z-of_z}
use Rattle.qh_ring.specs.Numbers.{IsBelow}
use Rattle.qh_ring.proofs.NumberLemmas.{same_number, stored, stored_negated, negated_below}
use Rattle.qh_ring.proofs.product.combine.Goals as goal

pub sum_of_four-c-requires-clause-s_below : goal.sum_of_four-c-requires-clause-s_below
sum_of_four-c-requires-clause-s_below c = negated_below c.args.s.now.d c.requires.s_within.d

pub returns : goal.returns
returns c =
    let pa : IsBelow 92 c.args.p.now.a = c.requires.p_within.a in
    let pb : IsBelow 92 c.args.p.now.b = c.requires.p_within.b in
    let pc : IsBelow 92 c.args.p.now.c = c.requires.p_within.c in
    let pd : IsBelow 92 c.args.p.now.d = c.requires.p_within.d in
    let qa : IsBelow 92 c.args.q.now.a = c.requires.q_within.a in
    let qb : IsBelow 92 c.args.q.now.b = c.requires.q_within.b in
    let qc : IsBelow 92 c.args.q.now.c = c.requires.q_within.c in
    let qd : IsBelow 92 c.args.q.now.d = c.requires.q_within.d in
    let ra : IsBelow 92 c.args.r.now.a = c.requires.r_within.a in
    let rb : IsBelow 92 c.args.r.now.b = c.requires.r_within.b in
    let rc : IsBelow 92 c.args.r.now.c = c.requires.r_within.c in
    let rd : IsBelow 92 c.args.r.now.d = c.requires.r_within.d in
    let sa : IsBelow 92 c.args.s.now.a = c.requires.s_within.a in
    let sb : IsBelow 92 c.args.s.now.b = c.requires.s_within.b in
    let sc : IsBelow 92 c.args.s.now.c = c.requires.s_within.c in
    let sd : IsBelow 92 c.args.s.now.d = c.requires.s_within.d in
    let ea = simp (stored, stored_negated) at c.sum_of_four-a.ensures in
    let eb = simp (stored, stored_negated) at c.sum_of_four-b.ensures in
    let ec = simp (stored, stored_negated) at c.sum_of_four-c.ensures in
    let ed = simp (stored, stored_negated) at c.sum_of_four-d.ensures in
    same_number _ _
    (to_z-of_z w128 _ (record { sfits = c.sum_of_four-a.type_inv }) ∙ ea)
    (to_z-of_z w128 _ (record { sfits = c.sum_of_four-b.type_inv }) ∙ eb)
    (to_z-of_z w128 _ (record { sfits = c.sum_of_four-c.type_inv }) ∙ ec)
    (to_z-of_z w128 _ (record { sfits = c.sum_of_four-d.type_inv }) ∙ ed)
