use Rattle.std.proofs.Common.{◌≡◌, ◌^◌, length}
use Rattle.qh_uncut.proofs.EvolutionLemmas.{IsRunning}
use Rattle.qh_uncut.proofs.chunks.go_on.Given as goal

abbrev pub invariant-loop-i : goal.invariant-loop-i
invariant-loop-i g l = record {
  running : IsRunning l.circuit l.i l.v.items;
  spare : length l.spare.items ≡ 2 ^ l.qubits;
}
