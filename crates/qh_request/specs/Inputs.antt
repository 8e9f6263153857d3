-- The circuit and the basis indices of a request: from two texts, or generated.
use Rattle.std.specs.Prelude.{◌≡◌, ℕ, ◌^◌, ◌≤◌, min, List, length, map, Option, Some, None, Ok, Err, IsSomeAnd}
use Rattle.std.specs.List.{range_with_len}
use Rattle.qh_limits.specs.Limits.{max_circuit_bytes, max_bits_bytes}
use Rattle.qh_text.specs.Bitstrings.{bits_text}
use Rattle.qh_gates.specs.Circuits.{Circuit}
use Rattle.qh_circuit.specs.Texts.{circuit_of}
use Rattle.qh_circuit.specs.declared.fault.Why.{Why}
use Rattle.qh_bits.specs.Texts.{bits_of, strings_of}
use Rattle.qh_bits.specs.declared.faults.BitsFault.TheVariants.{Line}
use Rattle.qh_bits.specs.declared.faults.BitsWhy.{BitsWhy}
use Rattle.qh_gen.specs.Grids.{generated}
use Rattle.qh_words.specs.declared.size.GenSize.{GenSize}
use Rattle.qh_io.specs.Reading.{IsReadWhole}
use Rattle.qh_request.specs.Seen.{Seen}

-- the bytes of a circuit file are accepted as this circuit, with the gates up to time T
pub record IsCircuitFile (T : ℕ) (c : Circuit) (bytes : List ℕ) : Type 0 where
  pub short : length bytes ≤ max_circuit_bytes
  pub read : circuit_of T bytes ≡ Ok c

-- the bytes of a bitstring file are accepted as these basis indices
pub record IsBitsFile (c : Circuit) (xs : List ℕ) (bytes : List ℕ) : Type 0 where
  pub short : length bytes ≤ max_bits_bytes
  pub read : bits_of c.qubits bytes ≡ Ok xs

-- this line of a circuit file is its first faulty one
abbrev pub IsFaultyCircuit : ℕ → ℕ → Why → List ℕ → Type 0
IsFaultyCircuit T line why bytes = (length bytes ≤ max_circuit_bytes) × (circuit_of T bytes ≡ Err (record { line = line; why = why }))

-- this line of a bitstring file is its first faulty one
abbrev pub AreFaultyBits : Circuit → ℕ → BitsWhy → List ℕ → Type 0
AreFaultyBits c line why bytes = (length bytes ≤ max_bits_bytes) × (bits_of c.qubits bytes ≡ Err (Line line why))

-- both sources were read to their end, and hold this circuit and these basis indices
pub record IsRead (T : ℕ) (circuit bits : Seen) (c : Circuit) (xs : List ℕ) : Type 0 where
  pub circuit_bytes : List ℕ
  pub bits_bytes : List ℕ
  pub circuit_read : IsReadWhole circuit.before circuit.after circuit_bytes
  pub bits_read : IsReadWhole bits.before bits.after bits_bytes
  pub circuit_file : IsCircuitFile T c circuit_bytes
  pub bits_file : IsBitsFile c xs bits_bytes

-- the circuit of a size, and its first basis indices, at most eight
abbrev pub circuit_by : GenSize → Circuit
circuit_by size = generated size.start size.rows size.cols size.depth

abbrev pub first_indices : ℕ → List ℕ
first_indices qubits = range_with_len 0 (min (2 ^ qubits) 8)

pub record IsGenerated (size : GenSize) (c : Circuit) (xs : List ℕ) : Type 0 where
  pub circuit : c ≡ circuit_by size
  pub indices : xs ≡ first_indices c.qubits

-- the circuit and the basis indices come from the files, or, with a size, from it
abbrev pub IsInput : Option GenSize → ℕ → Seen → Seen → Circuit → List ℕ → Type 0
IsInput None T circuit bits c xs = IsRead T circuit bits c xs
IsInput (Some size) T circuit bits c xs = IsGenerated size c xs

-- the strings that are asked: those of the bitstring file, or, with a size, those of the basis indices
abbrev pub asked_strings : (g : Option GenSize) (T : ℕ) (circuit bits : Seen) (c : Circuit) (xs : List ℕ) → IsInput g T circuit bits c xs → List (List ℕ)
asked_strings None T circuit bits c xs input = strings_of input.bits_bytes
asked_strings (Some size) T circuit bits c xs input = map (bits_text c.qubits) xs

-- the same by what the sources tell at entry: two accepted files, or a size, which asks nothing of what they tell
abbrev pub HasInput : Option GenSize → ℕ → Option (List ℕ) → Option (List ℕ) → Circuit → List ℕ → Type 0
HasInput None T circuit bits c xs = IsSomeAnd circuit (IsCircuitFile T c) × IsSomeAnd bits (IsBitsFile c xs)
HasInput (Some size) T circuit bits c xs = IsGenerated size c xs
