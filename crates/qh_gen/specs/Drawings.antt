-- The drawn gates. A drawing replaces the state by the next one and answers that state over 2 ^ 33: a linear congruential
-- generator modulo 2 ^ 64 with the multiplier and the increment of Knuth's MMIX.
use Rattle.std.specs.Prelude.{ℕ, zero, suc, ◌+◌, ◌*◌, ◌/◌, ◌%◌, ◌^◌, ◌==◌, List, [], ◌∷◌, if◌then◌else◌}
use Rattle.qh_gates.specs.declared.kind.Kind.{Kind}
use Rattle.qh_gates.specs.declared.kind.Kind.TheVariants.{T, X12, Y12}
use Rattle.qh_gates.specs.declared.gate.Gate.{Gate}

-- the state that a drawing leaves
unfoldable pub next_state : ℕ → ℕ
next_state s = (s * 6364136223846793005 + 1442695040888963407) % 2 ^ 64

-- the state that n drawings leave
abbrev pub state_after : ℕ → ℕ → ℕ
state_after zero s = s
state_after (suc n) s = state_after n (next_state s)

-- the gate of a drawn number
abbrev pub drawn_kind : ℕ → Kind
drawn_kind v = if v % 3 == 0 then T else (if v % 3 == 1 then X12 else Y12)

-- a gate on one qubit
abbrev pub single : ℕ → Kind → ℕ → Gate
single time kind q = record { time = time; kind = kind; q0 = q; q1 = q }

-- one gate by one drawing on each of these qubits, in their order, from the state s
abbrev pub drawn_gates : ℕ → ℕ → List ℕ → List Gate
drawn_gates time s [] = []
drawn_gates time s (q ∷ qs) = single time (drawn_kind (next_state s / 2 ^ 33)) q ∷ drawn_gates time (next_state s) qs
