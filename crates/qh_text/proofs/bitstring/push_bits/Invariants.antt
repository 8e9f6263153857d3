use Rattle.std.proofs.Common.{◌≡◌, ◌++◌, ◌-◌}
use Rattle.qh_text.specs.Bitstrings.{bits_text}
use Rattle.qh_text.specs.Words.{Extends}
use Rattle.qh_text.proofs.bitstring.push_bits.Given as goal

abbrev pub invariant-loop-q : goal.invariant-loop-q
invariant-loop-q l = record {
  spelled : l.text.items ++ bits_text (l.qubits - l.q) l.rest ≡ l.initial.text.items ++ bits_text l.qubits l.index;
  extends : Extends l.initial.text.items l.text.items;
}
