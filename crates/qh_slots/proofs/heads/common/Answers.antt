use Rattle.std.proofs.Common.{arith, rules}
use Rattle.qh_slots.proofs.StandLemmas.{common_more, common_stops, common_ends}
use Rattle.qh_slots.proofs.heads.common.Goals as goal

pub loop-n-preserved : goal.loop-n-preserved
loop-n-preserved c =
    let more = common_more c.args.front.now c.args.head.now c.loop-n.n (omega arith) (omega arith) (search rules) in
    let i = c.loop-n.invariant in omega arith

pub returns-then-front-n : goal.returns-then-front-n
returns-then-front-n c =
    let stops = common_stops c.args.front.now c.args.head.now c.loop-n.n (omega arith) (omega arith) (search rules) in
    let i = c.loop-n.invariant in omega arith

pub returns : goal.returns
returns c =
    let ends = common_ends c.args.front.now c.args.head.now c.loop-n.n (search (rules, arith)) in
    let i = c.loop-n.invariant in omega arith
