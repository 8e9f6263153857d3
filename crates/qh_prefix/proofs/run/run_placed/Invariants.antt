use Rattle.qh_prefix.proofs.RunLemmas.{IsGathering}
use Rattle.qh_prefix.proofs.run.run_placed.Given as goal

abbrev pub invariant-loop-gate : goal.invariant-loop-gate
invariant-loop-gate g l =
    IsGathering l.initial.half.qubits l.gates l.digits l.gate-index l.used l.half.qubits l.initial.steps l.steps l.initial.half.numbers l.half.numbers l.piece.items
