-- A gate that no fault applies to keeps the circuit valid.
use Rattle.std.proofs.Common.{◌≡◌, ℕ, ◌^◌, ◌<◌, ◌≤◌, inl, inr, List, [], ◌∷◌, ◌++◌, length, get_or, arith, sym}
use Rattle.std.specs.List.{Any}
use Rattle.std.proofs.lemmas.List.{length_push, get_or_default}
use Rattle.std.proofs.lemmas.List.Quantifiers.{all_pairs_push}
use Rattle.std.proofs.lemmas.List.Elements.{All-push}
use Rattle.qh_gates.specs.declared.gate.Gate.{Gate}
use Rattle.qh_gates.specs.Tables.{qubits_of}
use Rattle.qh_gates.specs.Circuits.{Circuit, IsCircuit, Fits, InOrder}
use Rattle.qh_gates.specs.Faults.{Shares, IsAccepted}

-- what holds of no element fails at each
at_each : (P : Gate → Type 0) (xs : List Gate) → (Any P xs → ⊥) → (k : ℕ) (d : Gate) → k < length xs → P (get_or xs k d) → ⊥
at_each P xs none k d l p = none (k, get_or xs k d, l, get_or_default xs k (get_or xs k d) d l, p)

in_order : (g h : Gate) → (g.time < h.time → ⊥) → ((h.time ≡ g.time) × Shares g h → ⊥) → InOrder h g
in_order g h late shared = record {
  time = omega arith;
  apart00 = λ t e. shared (t, inl (sym e));
  apart01 = λ t e. shared (t, inr (inr (inl (sym e))));
  apart10 = λ t e. shared (t, inr (inl (sym e)));
  apart11 = λ t e. shared (t, inr (inr (inr (sym e))));
}

-- a gate that no fault applies to may be pushed
pub circuit_push : (c : Circuit) (g : Gate) → IsCircuit c → g.time < 2 ^ 32 → (qubits_of g.kind ≡ 1 → g.q1 ≡ g.q0) → IsAccepted c g → IsCircuit (record { qubits = c.qubits; gates = c.gates ++ g ∷ [] })
circuit_push c g h early one a = record {
  some = h.some;
  few = h.few;
  short = let n = a.1 in let m = length_push c.gates g in omega arith;
  fit = All-push (Fits c.qubits) c.gates g h.fit (record {
    first = by_cases g.q0 c.qubits (λ l. a.0.0 (inl l));
    second = by_cases g.q1 c.qubits (λ l. a.0.0 (inr l));
    one = one;
    two = λ e f. a.0.1 (e, sym f);
  });
  times = All-push (λ (g : Gate). g.time < 2 ^ 32) c.gates g h.times early;
  ordered = all_pairs_push InOrder c.gates g h.ordered (λ k d l.
      in_order g (get_or c.gates k d) (at_each (λ h. g.time < h.time) c.gates a.0.2 k d l) (at_each (λ h. (h.time ≡ g.time) × Shares g h) c.gates a.0.3 k d l));
}
  where
    by_cases : (q n : ℕ) → (n ≤ q → ⊥) → q < n
    by_cases q n f = omega arith
