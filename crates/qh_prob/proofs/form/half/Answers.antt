use Rattle.std.proofs.Common.{arith}
use Rattle.std.proofs.lemmas.Int.{ints}
use Rattle.qh_prob.proofs.TotalLemmas.{same_prob}
use Rattle.qh_prob.proofs.form.half.Goals as goal

pub returns-clause-some : goal.returns-clause-some
returns-clause-some c = (
  same_prob _ _ (omega (arith, ints)) (omega (arith, ints)),
  record { p = omega (arith, ints); q = omega (arith, ints) },
)
