use Rattle.qh_endure.proofs.Rounds.{planned, made_now, proceeds_on, ends_later}
use Rattle.qh_endure.proofs.enduring.run.Goals as goal

pub call-requires-clause-made : goal.call-requires-clause-made
call-requires-clause-made c =
    let first = planned _ _ _ c.args.disk.now c.again.new.self _ c.args.out.now c.again.ensures c.requires.made in
    made_now _ _ _ c.args.disk.now c.again.new.self first.moments first.made

pub returns-clause-proceeds : goal.returns-clause-proceeds
returns-clause-proceeds c =
    let first = planned _ _ _ c.args.disk.now c.again.new.self _ c.args.out.now c.again.ensures c.requires.made in
    proceeds_on _ _ _ c.args.disk.now c.again.new.self c.call.new.disk c.args.out.now c.args.out.now c.call.new.out first c.call.ensures.proceeds

pub returns-clause-ends : goal.returns-clause-ends
returns-clause-ends c =
    let first = planned _ _ _ c.args.disk.now c.again.new.self _ c.args.out.now c.again.ensures c.requires.made in
    ends_later _ _ _ c.args.disk.now c.again.new.self c.call.new.disk c.args.out.now c.args.out.now c.call.new.out c.call.result first c.call.ensures.ends
