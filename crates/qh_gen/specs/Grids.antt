-- The generated circuit of a grid: the qubit in row y and column x is number y * cols + x.
use Rattle.std.specs.Prelude.{ℕ, zero, suc, ◌+◌, ◌-◌, ◌*◌, ◌/◌, ◌%◌, ◌==◌, ◌&&◌, ◌||◌, Bool, not, nat_lt, nat_le, List, [], ◌++◌, map, filter, length, if◌then◌else◌}
use Rattle.std.specs.List.{range_with_len}
use Rattle.qh_gates.specs.declared.kind.Kind.TheVariants.{H, Cz}
use Rattle.qh_gates.specs.declared.gate.Gate.{Gate}
use Rattle.qh_gates.specs.Circuits.{Circuit}
use Rattle.qh_gen.specs.Drawings.{single, drawn_gates, state_after}

-- patterns 0 and 2 pair neighbours in a row, 1 and 3 neighbours in a column; 0 and 1 from the even places on, 2 and 3 from
-- the odd places on
abbrev pub is_along_rows : ℕ → Bool
is_along_rows pattern = pattern % 2 == 0

-- how far the number of the upper qubit of a pair lies above that of the lower one
abbrev pub distance : ℕ → ℕ → ℕ
distance cols pattern = if is_along_rows pattern then 1 else cols

-- the place is one from which the pattern pairs on, and the next place lies in the grid
abbrev pub starts_at : ℕ → ℕ → ℕ → Bool
starts_at pattern place places = place % 2 == pattern / 2 && nat_lt (place + 1) places

-- the qubit is the lower one of a pair
unfoldable pub is_lower : ℕ → ℕ → ℕ → ℕ → Bool
is_lower rows cols pattern q =
    if is_along_rows pattern then starts_at pattern (q % cols) cols else starts_at pattern (q / cols) rows

-- the qubit is the upper one of a pair
abbrev pub is_upper : ℕ → ℕ → ℕ → ℕ → Bool
is_upper rows cols pattern q = nat_le (distance cols pattern) q && is_lower rows cols pattern (q - distance cols pattern)

-- the qubit is in no pair
abbrev pub is_alone : ℕ → ℕ → ℕ → ℕ → Bool
is_alone rows cols pattern q = not (is_lower rows cols pattern q || is_upper rows cols pattern q)

-- all qubits of the grid, in order
abbrev pub qubits_of_grid : ℕ → ℕ → List ℕ
qubits_of_grid rows cols = range_with_len 0 (rows * cols)

-- the pattern of a time from 1 on
abbrev pub pattern_at : ℕ → ℕ
pattern_at time = (time - 1) % 4

-- of these qubits, those that are in no pair at this time
abbrev pub alone_among : ℕ → ℕ → ℕ → List ℕ → List ℕ
alone_among rows cols time qs = filter (is_alone rows cols (pattern_at time)) qs

abbrev pub alone_at : ℕ → ℕ → ℕ → List ℕ
alone_at rows cols time = alone_among rows cols time (qubits_of_grid rows cols)

-- a `cz` on a qubit and the one that the time's pattern pairs it with
abbrev pub pair_gate : ℕ → ℕ → ℕ → Gate
pair_gate cols time q = record { time = time; kind = Cz; q0 = q; q1 = q + distance cols (pattern_at time) }

-- the pairs whose lower qubits are among these, in their order
abbrev pub pairs_among : ℕ → ℕ → ℕ → List ℕ → List Gate
pairs_among rows cols time qs = map (pair_gate cols time) (filter (is_lower rows cols (pattern_at time)) qs)

abbrev pub pairs_at : ℕ → ℕ → ℕ → List Gate
pairs_at rows cols time = pairs_among rows cols time (qubits_of_grid rows cols)

-- the gates of n times from this one on, from the generator's state s: first the pairs, then a drawn gate on each other qubit
abbrev pub gates_between : ℕ → ℕ → ℕ → ℕ → ℕ → List Gate
gates_between rows cols zero time s = []
gates_between rows cols (suc n) time s =
    pairs_at rows cols time ++ drawn_gates time s (alone_at rows cols time)
    ++ gates_between rows cols n (time + 1) (state_after (length (alone_at rows cols time)) s)

-- `h` on each qubit, in order
abbrev pub hadamards_at : ℕ → ℕ → ℕ → List Gate
hadamards_at rows cols time = map (single time H) (qubits_of_grid rows cols)

-- `h` on each qubit at time 0, the gates of the times 1 to depth, and `h` on each qubit at time depth + 1
abbrev pub generated_gates : ℕ → ℕ → ℕ → ℕ → List Gate
generated_gates start rows cols depth =
    hadamards_at rows cols 0 ++ gates_between rows cols depth 1 start ++ hadamards_at rows cols (depth + 1)

abbrev pub generated : ℕ → ℕ → ℕ → ℕ → Circuit
generated start rows cols depth = record { qubits = rows * cols; gates = generated_gates start rows cols depth }

-- the circuit with these gates behind its own
abbrev pub with_gates : Circuit → List Gate → Circuit
with_gates c gates = record { qubits = c.qubits; gates = c.gates ++ gates }
