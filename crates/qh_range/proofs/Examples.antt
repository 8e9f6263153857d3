-- What ranges of known jobs cost, computed by the definitions.
use Rattle.std.proofs.Common.{◌≡◌, ℕ, ◌+◌, List, [], ◌∷◌, ◌++◌, zero, suc, refl, None}
use Rattle.qh_gates.specs.declared.gate.Gate.{Gate}
use Rattle.qh_gates.specs.declared.kind.Kind.TheVariants.{H, Cz}
use Rattle.qh_plan.specs.Jobs.{Job}
use Rattle.qh_range.specs.Steps.{range_steps, whole_steps}

-- h on both qubits, a cz across the cut, h on qubit 0, and a second cz, which is the root's one and the suffix's one: two ranges of two paths
two : Job
two = record {
  circuit = record {
    qubits = 2;
    gates = record { time = 0; kind = H; q0 = 0; q1 = 0 } ∷ record { time = 0; kind = H; q0 = 1; q1 = 1 } ∷ record { time = 1; kind = Cz; q0 = 0; q1 = 1 }
        ∷ record { time = 2; kind = H; q0 = 0; q1 = 0 } ∷ record { time = 3; kind = Cz; q0 = 0; q1 = 1 } ∷ [];
  };
  part = 0 ∷ [];
  p = 0;
  r = 1;
  prefix = None;
  bits = 0 ∷ [];
}

-- seven steps from the checkpoint, nine from the state with all qubits 0
two_steps : range_steps two ∷ whole_steps two ∷ [] ≡ 7 ∷ 9 ∷ []
unfolding two
two_steps = refl

-- h on each qubit up to this one
all_h : ℕ → List Gate
all_h zero = []
all_h (suc n) = all_h n ++ (record { time = 0; kind = H; q0 = n; q1 = n } ∷ [])

-- the numbers below this one
below : ℕ → List ℕ
below zero = []
below (suc n) = below n ++ (n ∷ [])

-- 36 qubits cut in halves: h on each, and then two cz across: its four paths cost 52 steps
wide : Job
wide = record {
  circuit = record { qubits = 36; gates = all_h 36 ++ (record { time = 1; kind = Cz; q0 = 17; q1 = 18 } ∷ record { time = 2; kind = Cz; q0 = 0; q1 = 35 } ∷ []) };
  part = below 18;
  p = 0;
  r = 0;
  prefix = None;
  bits = 0 ∷ [];
}

wide_steps : whole_steps wide ≡ 52
unfolding wide all_h below
wide_steps = refl
