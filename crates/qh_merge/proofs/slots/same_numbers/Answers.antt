use Rattle.std.proofs.Common.{refl, arith}
use Rattle.std.proofs.lemmas.List.{ext_get_or}
use Rattle.qh_ring.specs.Numbers.{nothing}
use Rattle.qh_merge.proofs.slots.same_numbers.Goals as goal

pub returns : goal.returns
returns c = (
  λ t. ext_get_or nothing c.args.one.now c.args.two.now (omega (arith, c.if-one-two.false)) (λ k low. c.loop-k.invariant k (omega (arith, c.loop-k-test.false))),
  λ e. refl,
)
