use Rattle.std.proofs.Common.{sym, subst, All}
use Rattle.qh_ring.specs.Numbers.{IsWithin}
use Rattle.qh_prob.proofs.TotalLemmas.{state_narrow}
use Rattle.qh_prob.proofs.prob.state_of.Goals as goal

pub returns-in-Ok-clause-small : goal.returns-in-Ok-clause-small
returns-in-Ok-clause-small c =
    let exact = rw c.in-Ok.is at c.requires.exact in
    subst (All (IsWithin 61)) (sym exact) (state_narrow c.args.circuit.now c.requires.valid c.requires.shallow)
