-- A job: a circuit, a cut, how its paths are grouped, and what is asked.
use Rattle.std.specs.Prelude.{ℕ, ◌==◌, ◌+◌, ◌*◌, ◌^◌, ◌<◌, ◌≤◌, Bool, List, length, take, drop, All, Option, Some, None}
use Rattle.std.specs.Option.{ForSome}
use Rattle.std.specs.List.{list_any}
use Rattle.std.specs.List.Sorted.{IsStrictlyIncreasing}
use Rattle.qh_limits.specs.Limits.{max_part_qubits, max_crossing, max_path_bits, max_ranges, max_bitstrings}
use Rattle.qh_gates.specs.Circuits.{Circuit, IsCircuit}
use Rattle.qh_plan.specs.Paths.{radices, path_count, path_digits}

-- a circuit, the qubits of part 1 in rising order, how many crossing gates are prefix and how many root,
-- a prefix value if one is given, and the asked basis indices
pub record Job : Type 0 where
  pub circuit : Circuit
  pub part : List ℕ
  pub p : ℕ
  pub r : ℕ
  pub prefix : Option ℕ
  pub bits : List ℕ

-- whether the qubit lies in part 1
abbrev pub in_one : Job → ℕ → Bool
in_one j q = list_any (λ k. k == q) j.part

-- ---- the paths. Their first p digits are the prefix, the next r the root, the others the suffix.
-- how many terms each crossing gate has
abbrev pub job_radices : Job → List ℕ
job_radices j = radices (in_one j) j.circuit.gates

-- how many gates cross the cut
abbrev pub crossing : Job → ℕ
crossing j = length (job_radices j)

-- how many paths the circuit has
abbrev pub paths : Job → ℕ
paths j = path_count (job_radices j)

-- how many prefix values, root values and suffix values there are
abbrev pub prefixes : Job → ℕ
prefixes j = path_count (take j.p (job_radices j))

abbrev pub roots : Job → ℕ
roots j = path_count (take j.r (drop j.p (job_radices j)))

abbrev pub per_range : Job → ℕ
per_range j = path_count (drop j.r (drop j.p (job_radices j)))

-- the digits of a path
abbrev pub digits_of : Job → ℕ → List ℕ
digits_of j k = path_digits (job_radices j) k

-- ---- the ranges of the run: all pairs of a prefix and a root, or the roots under the given prefix
abbrev pub ranges_of : Job → Option ℕ → ℕ
ranges_of j None = prefixes j * roots j
ranges_of j (Some w) = roots j

abbrev pub ranges : Job → ℕ
ranges j = ranges_of j j.prefix

-- how many ranges stand before those of the run, under smaller prefix values
abbrev pub earlier : Job → Option ℕ → ℕ
earlier j None = 0
earlier j (Some w) = w * roots j

-- the first of a range's paths
abbrev pub first_path : Job → ℕ → ℕ
first_path j i = (earlier j j.prefix + i) * per_range j

-- ---- what the type of a job keeps
pub record IsJob (j : Job) : Type 0 where
  pub valid : IsCircuit j.circuit
  pub rising : IsStrictlyIncreasing j.part
  pub in_circuit : All (λ q. q < j.circuit.qubits) j.part
  pub some_in_one : 1 ≤ length j.part
  pub some_in_two : length j.part < j.circuit.qubits
  pub narrow_one : length j.part ≤ max_part_qubits
  pub narrow_two : j.circuit.qubits ≤ length j.part + max_part_qubits
  pub few_crossing : crossing j ≤ max_crossing
  pub few_paths : paths j ≤ 2 ^ max_path_bits
  pub is_split : j.p + j.r ≤ crossing j
  pub has_prefix : ForSome j.prefix (λ w. w < prefixes j)
  pub few_ranges : ranges j ≤ max_ranges
  pub some_bits : 1 ≤ length j.bits
  pub few_bits : length j.bits ≤ max_bitstrings
  pub bits_below : All (λ b. b < 2 ^ j.circuit.qubits) j.bits
