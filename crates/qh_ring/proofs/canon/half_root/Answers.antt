use Rattle.std.proofs.Common.{arith}
use Rattle.std.proofs.lemmas.Int.{ints}
use Rattle.qh_ring.proofs.NumberLemmas.{root_even, root_of_halves}
use Rattle.qh_ring.proofs.canon.half_root.Goals as goal
use Rattle.qh_ring.proofs.canon.half_root.Goals.{then-a-c-ne0-via-then-a-c-ne0, then-a-c-ne0-via-else-a-c-ne0+then-b-d-ne0}

pub returns-then-a-c-ne0-clause-none : goal.returns-then-a-c-ne0-clause-none
returns-then-a-c-ne0-clause-none c q e =
    let even = root_even c.args.z.now q e in
    elim c.then-a-c-ne0.branch [
      | then-a-c-ne0-via-then-a-c-ne0 w ↦ omega (arith, ints)
      | then-a-c-ne0-via-else-a-c-ne0+then-b-d-ne0 w ↦ omega (arith, ints)
    ]

pub returns-clause-some : goal.returns-clause-some
returns-clause-some c = (
  root_of_halves _ _ (omega (arith, ints)) (omega (arith, ints)) (omega (arith, ints)) (omega (arith, ints)),
  record { a = omega (arith, ints); b = omega (arith, ints); c = omega (arith, ints); d = omega (arith, ints) },
)
