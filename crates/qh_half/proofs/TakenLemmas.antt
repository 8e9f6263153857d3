-- What a half keeps when the lanes in use take a run.
use Rattle.std.proofs.Common.{◌≡◌, ℕ, ◌+◌, ◌/◌, ◌≤◌, List, arith, sym, ap, subst, ◌∙◌}
use Rattle.std.specs.Prelude.{Option, Some}
use Rattle.qh_ring.specs.declared.number.Omega.{Omega}
use Rattle.qh_passes.specs.declared.turn.Turn.{Turn}
use Rattle.qh_passes.specs.Turns.{after_turns, StayWithin}
use Rattle.qh_narrow.specs.Columns.{Columns}
use Rattle.qh_narrow.specs.Factor.{with_factor}
use Rattle.qh_half.specs.declared.form.Form.{Form}
use Rattle.qh_half.specs.declared.places.Places.{Places}
use Rattle.qh_half.specs.Halves.{IsVector, AfterTurns}
use Rattle.qh_half.specs.Forms.{held, IsKept}
use Rattle.qh_half.proofs.RunsLemmas.{runs_held, runs_vector}

few_roots : (bits most roots : ℕ) → bits + (most + 1) / 2 ≤ 126 → roots ≤ most → bits + (roots + 1) / 2 ≤ 126
few_roots bits most roots b l = omega arith

module _ (qubits roots bits most : ℕ) (run : List Turn) (v w : List Omega) (b : bits + (most + 1) / 2 ≤ 126) (l : roots ≤ most) (e : w ≡ after_turns run v) (stay : StayWithin bits run v) where
  vector_of : IsVector qubits (with_factor roots v) → IsVector qubits (with_factor roots w)
  vector_of h = subst (λ u. IsVector qubits (with_factor roots u)) (sym e) (runs_vector qubits roots bits run v (few_roots bits most roots b l) h stay)

  numbers_of : AfterTurns run (Some (with_factor roots v)) (Some (with_factor roots w))
  numbers_of = subst (λ u. AfterTurns run (Some (with_factor roots v)) (Some (with_factor roots u))) (sym e) (runs_held roots bits run v (few_roots bits most roots b l) stay)

module _ (qubits roots : ℕ) (places : Places) (s : Columns) (run : List Turn) where
  pub kept16 : IsKept qubits (Form.Narrow16 roots) places → s.qubits ≡ places.narrow16.qubits → s.numbers ≡ after_turns run places.narrow16.numbers → StayWithin 14 run places.narrow16.numbers
      → IsKept qubits (Form.Narrow16 roots) (record places { narrow16 = s })
  kept16 k q e stay = record {
    alike = record { few = k.alike.few; narrow16 = q ∙ k.alike.narrow16; narrow32 = k.alike.narrow32; narrow64 = k.alike.narrow64; wide = k.alike.wide };
    roots = k.roots;
    vector = vector_of qubits roots 14 192 run places.narrow16.numbers s.numbers (omega arith) k.roots e stay k.vector;
  }

  pub taken16 : IsKept qubits (Form.Narrow16 roots) places → s.numbers ≡ after_turns run places.narrow16.numbers → StayWithin 14 run places.narrow16.numbers
      → AfterTurns run (held (Form.Narrow16 roots) places) (held (Form.Narrow16 roots) (record places { narrow16 = s }))
  taken16 k e stay = numbers_of qubits roots 14 192 run places.narrow16.numbers s.numbers (omega arith) k.roots e stay

  pub kept32 : IsKept qubits (Form.Narrow32 roots) places → s.qubits ≡ places.narrow32.qubits → s.numbers ≡ after_turns run places.narrow32.numbers → StayWithin 30 run places.narrow32.numbers
      → IsKept qubits (Form.Narrow32 roots) (record places { narrow32 = s })
  kept32 k q e stay = record {
    alike = record { few = k.alike.few; narrow16 = k.alike.narrow16; narrow32 = q ∙ k.alike.narrow32; narrow64 = k.alike.narrow64; wide = k.alike.wide };
    roots = k.roots;
    vector = vector_of qubits roots 30 192 run places.narrow32.numbers s.numbers (omega arith) k.roots e stay k.vector;
  }

  pub taken32 : IsKept qubits (Form.Narrow32 roots) places → s.numbers ≡ after_turns run places.narrow32.numbers → StayWithin 30 run places.narrow32.numbers
      → AfterTurns run (held (Form.Narrow32 roots) places) (held (Form.Narrow32 roots) (record places { narrow32 = s }))
  taken32 k e stay = numbers_of qubits roots 30 192 run places.narrow32.numbers s.numbers (omega arith) k.roots e stay

  pub kept64 : IsKept qubits (Form.Narrow64 roots) places → s.qubits ≡ places.narrow64.qubits → s.numbers ≡ after_turns run places.narrow64.numbers → StayWithin 62 run places.narrow64.numbers
      → IsKept qubits (Form.Narrow64 roots) (record places { narrow64 = s })
  kept64 k q e stay = record {
    alike = record { few = k.alike.few; narrow16 = k.alike.narrow16; narrow32 = k.alike.narrow32; narrow64 = q ∙ k.alike.narrow64; wide = k.alike.wide };
    roots = k.roots;
    vector = vector_of qubits roots 62 128 run places.narrow64.numbers s.numbers (omega arith) k.roots e stay k.vector;
  }

  pub taken64 : IsKept qubits (Form.Narrow64 roots) places → s.numbers ≡ after_turns run places.narrow64.numbers → StayWithin 62 run places.narrow64.numbers
      → AfterTurns run (held (Form.Narrow64 roots) places) (held (Form.Narrow64 roots) (record places { narrow64 = s }))
  taken64 k e stay = numbers_of qubits roots 62 128 run places.narrow64.numbers s.numbers (omega arith) k.roots e stay
