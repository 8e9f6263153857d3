-- What a text of bitstrings says: its basis indices, or the first faulty line with its first fault.
use Rattle.std.specs.Prelude.{ℕ, List, [], ◌∷◌, map, Option, Result, Ok, Err}
use Rattle.std.specs.List.{filter_map, enumerate_from}
use Rattle.std.specs.Option.{option_map}
use Rattle.qh_text.specs.Lines.{content_of}
use Rattle.qh_text.specs.LineWords.{trimmed}
use Rattle.qh_text.specs.Bitstrings.{index_of}
use Rattle.qh_bits.specs.Strings.{fault_of}
use Rattle.qh_bits.specs.declared.faults.BitsWhy.TheVariants.{NoStrings}
use Rattle.qh_bits.specs.declared.faults.BitsFault.{BitsFault}
use Rattle.qh_bits.specs.declared.faults.BitsFault.TheVariants.{Line}

-- the first fault of a numbered line that so many strings stand before
abbrev pub fault_in : ℕ → ℕ × (ℕ × List ℕ) → Option BitsFault
fault_in qubits placed = option_map (Line placed.1.0) (fault_of qubits placed.0 (trimmed placed.1.1))

-- the faults of these lines, each of which is a string, in order
abbrev pub faults_in : ℕ → ℕ → List (ℕ × List ℕ) → List BitsFault
faults_in qubits before lines = filter_map (fault_in qubits) (enumerate_from before lines)

-- the strings of these lines, in order
abbrev pub strings_in : List (ℕ × List ℕ) → List (List ℕ)
strings_in lines = map (λ line. trimmed line.1) lines

-- the strings of a text, one for each line that is not passed over
abbrev pub strings_of : List ℕ → List (List ℕ)
strings_of text = strings_in (content_of text)

-- the basis indices of these lines, in order
abbrev pub indices_in : List (ℕ × List ℕ) → List ℕ
indices_in lines = map (λ line. index_of (trimmed line.1)) lines

-- the first fault, else the indices, of which there is at least one
abbrev pub answer : List BitsFault → List ℕ → Result (List ℕ) BitsFault
answer (fault ∷ faults) indices = Err fault
answer [] [] = Err (Line 0 NoStrings)
answer [] (index ∷ indices) = Ok (index ∷ indices)

-- each line that is not passed over is a string
unfoldable pub bits_of : ℕ → List ℕ → Result (List ℕ) BitsFault
bits_of qubits text = answer (faults_in qubits 0 (content_of text)) (indices_in (content_of text))
