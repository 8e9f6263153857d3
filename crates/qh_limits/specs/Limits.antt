-- The limits of circuits, cuts, texts and numbers. docs/LIMITS.md says why each is what it is.
use Rattle.std.specs.Prelude.{ℕ}

-- the most qubits of a circuit
abbrev pub max_qubits : ℕ
max_qubits = 40

-- the most qubits of a circuit that is simulated whole
abbrev pub max_uncut_qubits : ℕ
max_uncut_qubits = 16

-- the most qubits of a part
abbrev pub max_part_qubits : ℕ
max_part_qubits = 20

-- the most gates of a circuit
abbrev pub max_gates : ℕ
max_gates = 4096

-- the most gates across a cut
abbrev pub max_crossing : ℕ
max_crossing = 32

-- at most 2 to this power are the paths of a cut circuit
abbrev pub max_path_bits : ℕ
max_path_bits = 32

-- the most ranges of a run
abbrev pub max_ranges : ℕ
max_ranges = 16384

-- the most grants of one range
abbrev pub max_grants : ℕ
max_grants = 16

-- the most bitstrings that may be asked
abbrev pub max_bitstrings : ℕ
max_bitstrings = 4096

-- the most bytes of a circuit text
abbrev pub max_circuit_bytes : ℕ
max_circuit_bytes = 1048576

-- the most bytes of a bitstring text
abbrev pub max_bits_bytes : ℕ
max_bits_bytes = 262144

-- the most bytes of a journal
abbrev pub max_journal_bytes : ℕ
max_journal_bytes = 1073741824

-- each coefficient of a state is below 2 to this power
abbrev pub coefficient_bits : ℕ
coefficient_bits = 126

-- each product of a coefficient of one half amplitude and one of the other is below 2 to this power
abbrev pub product_bits : ℕ
product_bits = 92

-- the most layers of a generated grid
abbrev pub max_layers : ℕ
max_layers = 100

-- the most weight of a circuit whose probabilities are computed
abbrev pub max_weight : ℕ
max_weight = 120

-- the most bytes of a job text that is read from a journal
abbrev pub max_job_bytes : ℕ
max_job_bytes = 1048576

-- the most workers of a run
abbrev pub max_workers : ℕ
max_workers = 16

-- the most seconds of a lease: a day
abbrev pub max_lease : ℕ
max_lease = 86400

-- the most journals that are merged at once
abbrev pub max_inputs : ℕ
max_inputs = 1024
