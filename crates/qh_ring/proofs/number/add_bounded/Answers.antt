use Rattle.std.proofs.Common.{arith}
use Rattle.std.proofs.lemmas.Int.{ints}
use Rattle.qh_ring.proofs.NumberLemmas.{same_number}
use Rattle.qh_ring.proofs.number.add_bounded.Goals as goal

pub returns : goal.returns
returns c = same_number _ _ (omega (arith, ints)) (omega (arith, ints)) (omega (arith, ints)) (omega (arith, ints))
