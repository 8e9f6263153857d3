use Rattle.std.proofs.Common.{ap}
use Rattle.qh_narrow.specs.Columns.{Columns}
use Rattle.qh_half.specs.Wide.{WideNumbers}
use Rattle.qh_half.proofs.places.Places.ground.Goals as goal

pub returns-clause-places : goal.returns-clause-places
returns-clause-places c = record {
  few = c.requires.few;
  narrow16 = ap (λ (s : Columns). s.qubits) c.in_ok-narrow16.ensures;
  narrow32 = ap (λ (s : Columns). s.qubits) c.in_ok-narrow32.ensures;
  narrow64 = ap (λ (s : Columns). s.qubits) c.in_ok-narrow64.ensures;
  wide = ap (λ (w : WideNumbers). w.qubits) c.in_ok-wide.ensures;
}

pub returns-clause-numbers : goal.returns-clause-numbers
returns-clause-numbers c = ap (λ (s : Columns). s.numbers) c.in_ok-narrow16.ensures
