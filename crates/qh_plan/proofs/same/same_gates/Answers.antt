use Rattle.std.proofs.Common.{rules, arith}
use Rattle.std.proofs.lemmas.List.{same_lists}
use Rattle.qh_plan.proofs.same.same_gates.Goals as goal

pub returns : goal.returns
returns c =
    (λ _. same_lists c.args.one.now c.args.two.now c.if-one-two.false (λ k d l. c.loop-i.invariant k d (omega arith)), λ _. search rules)
