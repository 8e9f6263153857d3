use Rattle.std.proofs.Common.{◌≡◌, ◌≤◌, ◌<◌, ◌^◌, length, All}
use Rattle.qh_bits.specs.Texts.{bits_of}
use Rattle.qh_bits.proofs.ReadOn.{read_on}
use Rattle.qh_bits.proofs.reading.read_bits.Given as goal

abbrev pub invariant-loop-line : goal.invariant-loop-line
invariant-loop-line l = record {
  same : bits_of l.qubits l.bytes ≡ read_on l.qubits l.indices.items l.line-iterator;
  few : length l.indices.items ≤ 4096;
  below : All (λ index. index < 2 ^ l.qubits) l.indices.items;
}
