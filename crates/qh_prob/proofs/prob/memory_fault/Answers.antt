use Rattle.std.proofs.Common.{subst}
use Rattle.qh_uncut.specs.Faults.{IsCause}
use Rattle.qh_prob.proofs.TotalLemmas.{never_over}
use Rattle.qh_prob.proofs.prob.memory_fault.Goals as goal

pub unreachable-requires : goal.unreachable-requires
unreachable-requires c =
    never_over c.args.circuit.now c.in-Over.gate c.requires.valid c.requires.shallow
    (subst (IsCause c.args.circuit.now) c.in-Over.is c.requires.cause)
